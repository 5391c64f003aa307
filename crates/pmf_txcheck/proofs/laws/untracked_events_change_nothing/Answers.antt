use Rattle.pmf_txcheck.proofs.TrackLemmas.{untracked-follows}
use Rattle.pmf_txcheck.proofs.laws.untracked_events_change_nothing.Goals as goal

pub returns : goal.returns
returns c = untracked-follows
