use Rattle.std.proofs.Common.{false, arith}
use Rattle.pmf_runs.proofs.ChangingLemmas.{all-parts}
use Rattle.pmf_runs.proofs.level.Level.has_unsettled.Goals as goal

pub returns : goal.returns
returns g c = λ _. all-parts g.P.Part.state g.S.State.unsettled false c.args.self.now (λ k p d b within. c.loop-i.invariant.none k p d b (omega (arith, c.args.self.now.parts.ok.0, c.len-i-end.ensures, c.loop-i-test.false)))
