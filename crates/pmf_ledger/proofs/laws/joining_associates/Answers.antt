use Rattle.pmf_ledger.proofs.lemmas.AlikeLemmas.{joining_associates}
use Rattle.pmf_ledger.proofs.laws.joining_associates.Goals as goal

pub returns : goal.returns
returns c = joining_associates
