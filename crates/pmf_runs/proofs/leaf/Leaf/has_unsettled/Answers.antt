use Rattle.std.proofs.Common.{false, arith}
use Rattle.pmf_runs.proofs.ChangingLemmas.{all-states}
use Rattle.pmf_runs.proofs.leaf.Leaf.has_unsettled.Goals as goal

pub returns : goal.returns
returns g c = λ none. all-states g.S.State.unsettled false c.args.self.now (λ k d within. c.loop-i.invariant.none none k d (omega (arith, c.args.self.now.states.ok.0, c.len-i-end.ensures, c.loop-i-test.false)))
