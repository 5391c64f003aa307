use Rattle.pmf_ledger.proofs.lemmas.LoadedLemmas.{loads_once}
use Rattle.pmf_ledger.proofs.laws.texts_load_as_one_ledger.Goals as goal

pub returns : goal.returns
returns c = loads_once
