use Rattle.pmf_cause.specs.Past.{IsPast}
use Rattle.pmf_cause.proofs.proposing.propose.Given as goal

abbrev pub invariant-loop-index : goal.invariant-loop-index
invariant-loop-index l = IsPast l.reach.past l.events
