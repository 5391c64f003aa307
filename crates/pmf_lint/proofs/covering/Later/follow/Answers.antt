use Rattle.std.proofs.Common.{◌∙◌, ap, ◌||◌}
use Rattle.pmf_runs.specs.Runs.{state_at}
use Rattle.pmf_lint.proofs.CoverLemmas.{stands_before}
use Rattle.pmf_lint.proofs.covering.Later.follow.Goals as goal

pub returns : goal.returns
returns c = λ es p here less stands.
    stands_before c.args.self.now _ es p c.args.event.now c.named_spans-one.result.0 c.named_spans-one.result.1 (λ b. state_at c.put_in.new.set b) here less stands
    c.named_spans-one.ensures c.in_ok-put_in.ensures c.in_ok-put_in-2.ensures (c.either-self.ensures ∙ ap (λ b. b || c.args.self.now.closed) c.closes.ensures)
