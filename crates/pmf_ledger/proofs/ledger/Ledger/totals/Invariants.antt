use Rattle.pmf_ledger.proofs.lemmas.CountLemmas.{Sums}
use Rattle.pmf_ledger.proofs.ledger.Ledger.totals.Given as goal

abbrev pub invariant-loop-verdict : goal.invariant-loop-verdict
invariant-loop-verdict l = Sums l.verdict-items l.verdict-index l.totals
