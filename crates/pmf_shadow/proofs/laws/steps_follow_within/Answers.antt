use Rattle.pmf_shadow.proofs.StandsLemmas.{follows-within}
use Rattle.pmf_shadow.proofs.laws.steps_follow_within.Goals as goal

pub returns : goal.returns
returns c = follows-within
