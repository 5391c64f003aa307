use Rattle.pmf_shadow.specs.Shadow.{StandsFor}
use Rattle.pmf_txcheck.specs.Tracking.{Tracks}
use Rattle.pmf_txcheck.proofs.tests.found_of.Given as goal

abbrev pub invariant-loop-index : goal.invariant-loop-index
invariant-loop-index g l = record { stands : StandsFor l.shadow (λ k. k) l.events l.index; tracks : Tracks l.state (λ k. k) l.events l.index }
