use Rattle.pmf_image.proofs.ScopeLemmas.{Tracked}
use Rattle.pmf_image.proofs.transactions.scope_at.Given as goal

abbrev pub invariant-loop-index : goal.invariant-loop-index
invariant-loop-index l = Tracked l.events l.byte l.index l.scope
