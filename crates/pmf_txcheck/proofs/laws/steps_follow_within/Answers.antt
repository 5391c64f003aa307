use Rattle.pmf_txcheck.proofs.TrackLemmas.{follows-within}
use Rattle.pmf_txcheck.proofs.laws.steps_follow_within.Goals as goal

pub returns : goal.returns
returns c = follows-within
