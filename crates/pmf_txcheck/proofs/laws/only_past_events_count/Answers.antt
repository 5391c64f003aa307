use Rattle.pmf_txcheck.proofs.TrackLemmas.{tracks-past}
use Rattle.pmf_txcheck.proofs.laws.only_past_events_count.Goals as goal

pub returns : goal.returns
returns c = tracks-past
