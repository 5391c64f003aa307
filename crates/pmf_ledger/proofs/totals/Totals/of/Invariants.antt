use Rattle.pmf_ledger.proofs.lemmas.CountLemmas.{Counted}
use Rattle.pmf_ledger.proofs.totals.Totals.of.Given as goal

abbrev pub invariant-loop-row : goal.invariant-loop-row
invariant-loop-row l = Counted l.row-items l.row-index l.pass l.fail l.warn l.empty
