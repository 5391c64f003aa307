use Rattle.std.proofs.{Common.{refl, arith}, lemmas.Option.{slice_get_read}}
use Rattle.pmf_cut.proofs.{CuttingLemmas.{file-there, marked, placed-within, quiet-said, quiet-same}, OutputLemmas.{puts-marker}}
use Rattle.pmf_cut.proofs.cutter.Cutter.mark.Goals as goal

pub returns-then-place-len : goal.returns-then-place-len
returns-then-place-len c = λ ends step records handed text cuts holds says.
    let found = c.in_ok-place.ensures step records handed cuts in
    let within = placed-within step records handed _ _ _ _ _ found.0.has c.args.number c.in_ok-place.place found.1 in
    absurd (omega (arith, within, c.if-place-len.true, c.len.ensures))

pub returns-in_ok-push : goal.returns-in_ok-push
returns-in_ok-push c = λ ends step records handed text cuts holds says.
    let found = c.in_ok-place.ensures step records handed cuts in
    let there = file-there step records handed _ _ _ _ _ found.0.has c.args.number c.in_ok-place.place _ found.1 (slice_get_read c.place_of.new.self.sections.items _ c.in_ok-place.place c.index-section.result.now refl (omega (arith, c.if-place-len.false, c.len.ensures)) c.index-section.ensures) in
    record {
      step_is = found.0.step_is;
      has = marked step records handed _ _ _ _ _ found.0.has ends _ text c.args.number c.in_ok-place.place says found.1
          (quiet-said ends handed _ c.args.number _ _ (puts-marker ends _ _ _ c.args.number c.args.bytes.now text c.in_ok-push.ensures holds says handed there found.0.has.opened));
    }

pub returns-else-section-number : goal.returns-else-section-number
returns-else-section-number c = λ ends step records handed text cuts holds says.
    let found = c.in_ok-place.ensures step records handed cuts in
    record {
      step_is = found.0.step_is;
      has = marked step records handed _ _ _ _ _ found.0.has ends _ text c.args.number c.in_ok-place.place says found.1 (quiet-same ends handed _ found.0.has.opened);
    }
