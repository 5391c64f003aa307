use Rattle.pmf_ledger.proofs.lemmas.AlikeLemmas.{joining_repeats}
use Rattle.pmf_ledger.proofs.laws.joining_again_changes_nothing.Goals as goal

pub returns : goal.returns
returns c = joining_repeats
