use Rattle.pmf_ledger.proofs.lemmas.RepeatLemmas.{RisesTo}
use Rattle.pmf_ledger.proofs.repeats.repeated.Given as goal

abbrev pub invariant-loop-next : goal.invariant-loop-next
invariant-loop-next l = RisesTo l.next l.names
