use Rattle.pmf_ledger.proofs.lemmas.AllKeptLemmas.{no_fail_is_kept}
use Rattle.pmf_ledger.proofs.laws.no_fail_is_kept.Goals as goal

pub returns : goal.returns
returns c = no_fail_is_kept
