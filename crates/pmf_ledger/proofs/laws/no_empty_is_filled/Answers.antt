use Rattle.pmf_ledger.proofs.lemmas.AllKeptLemmas.{no_empty_is_filled}
use Rattle.pmf_ledger.proofs.laws.no_empty_is_filled.Goals as goal

pub returns : goal.returns
returns c = no_empty_is_filled
