use Rattle.pmf_ledger.proofs.lemmas.TrueRowsLemmas.{rows_true}
use Rattle.pmf_ledger.proofs.ledger.Ledger.get.Goals as goal

pub returns-in-Ok-clause-true_rows : goal.returns-in-Ok-clause-true_rows
returns-in-Ok-clause-true_rows c = rows_true c.index.result.now
