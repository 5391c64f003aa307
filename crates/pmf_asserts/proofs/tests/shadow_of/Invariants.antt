use Rattle.pmf_shadow.specs.Shadow.{StandsFor}
use Rattle.pmf_asserts.proofs.tests.shadow_of.Given as goal

abbrev pub invariant-loop-index : goal.invariant-loop-index
invariant-loop-index l = StandsFor l.shadow (λ k. k) l.events l.index
