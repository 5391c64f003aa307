use Rattle.pmf_ledger.proofs.lemmas.TrueRowsLemmas.{rows_true}
use Rattle.pmf_ledger.proofs.laws.all_rows_are_true.Goals as goal

pub returns : goal.returns
returns c = rows_true
