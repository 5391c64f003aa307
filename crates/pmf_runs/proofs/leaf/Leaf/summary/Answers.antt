use Rattle.std.proofs.Common.{true, arith}
use Rattle.pmf_runs.proofs.ChangingLemmas.{all-states}
use Rattle.pmf_runs.proofs.leaf.Leaf.summary.Goals as goal

pub returns : goal.returns
returns g c = all-states (g.S.State.covers c.loop-i.summary) true c.args.self.now (λ k d within. c.loop-i.invariant.covered k d (omega (arith, c.args.self.now.states.ok.0, c.len-i-end.ensures, c.loop-i-test.false)))
