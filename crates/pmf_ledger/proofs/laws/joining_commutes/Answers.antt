use Rattle.pmf_ledger.proofs.lemmas.AlikeLemmas.{joining_commutes}
use Rattle.pmf_ledger.proofs.laws.joining_commutes.Goals as goal

pub returns : goal.returns
returns c = joining_commutes
