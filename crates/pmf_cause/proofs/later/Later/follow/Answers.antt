use Rattle.std.proofs.Common.{suc, ◌-◌, ◌≡◌, if◌then◌else◌, sym, ◌∙◌, ap, arith}
use Rattle.pmf_event.specs.{Line.{line_of_byte}, Store.{flushes}}
use Rattle.pmf_runs.specs.Runs.{state_at}
use Rattle.pmf_cause.{specs.Cause.{write_back_after}, proofs.LaterLemmas.{write_back-step}}
use Rattle.pmf_cause.proofs.later.Later.follow.Goals as goal

pub returns-clause-later : goal.returns-clause-later
returns-clause-later c = λ es p at_place here within later.
    let old = c.args.self.now in
    let e = c.args.event.now in
    let now : p ≡ old.place - 1 = omega arith in
    record {
      each = λ b has. let line = line_of_byte b in
          c.in_ok-write_back_watched.ensures b has
          ∙ ap (λ k. if flushes line e then k else (state_at old.written_back b).of) at_place
          ∙ ap (λ k. if flushes line e then suc p else k) (later.each b has ∙ ap (write_back_after es line) at_place)
          ∙ sym (write_back-step es p e here within line)
          ∙ ap (write_back_after es line) now;
    }
