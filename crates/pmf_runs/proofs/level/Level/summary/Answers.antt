use Rattle.std.proofs.Common.{true, arith}
use Rattle.pmf_runs.proofs.ChangingLemmas.{all-parts}
use Rattle.pmf_runs.proofs.level.Level.summary.Goals as goal

pub returns : goal.returns
returns g c = all-parts g.P.Part.state (g.S.State.covers c.loop-i.summary) true c.args.self.now (λ k p d b within. c.loop-i.invariant.covered k p d b (omega (arith, c.args.self.now.parts.ok.0, c.len-i-end.ensures, c.loop-i-test.false)))
