use Rattle.pmf_shadow.proofs.StandsLemmas.{unseen-follows}
use Rattle.pmf_shadow.proofs.laws.unseen_events_change_nothing.Goals as goal

pub returns : goal.returns
returns c = unseen-follows
