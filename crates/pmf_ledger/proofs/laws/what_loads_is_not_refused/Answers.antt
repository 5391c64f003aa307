use Rattle.pmf_ledger.proofs.lemmas.LoadedLemmas.{loads_unrefused}
use Rattle.pmf_ledger.proofs.laws.what_loads_is_not_refused.Goals as goal

pub returns : goal.returns
returns c = loads_unrefused
