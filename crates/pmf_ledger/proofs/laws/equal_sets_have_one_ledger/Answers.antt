use Rattle.pmf_ledger.proofs.lemmas.AlikeLemmas.{equal_sets}
use Rattle.pmf_ledger.proofs.laws.equal_sets_have_one_ledger.Goals as goal

pub returns : goal.returns
returns c = equal_sets
