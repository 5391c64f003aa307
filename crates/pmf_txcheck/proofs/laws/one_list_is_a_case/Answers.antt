use Rattle.pmf_txcheck.proofs.TrackLemmas.{one-list}
use Rattle.pmf_txcheck.proofs.laws.one_list_is_a_case.Goals as goal

pub returns : goal.returns
returns c = one-list
