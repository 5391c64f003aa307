use Rattle.pmf_shadow.proofs.StandsLemmas.{stands-past}
use Rattle.pmf_shadow.proofs.laws.only_past_events_count.Goals as goal

pub returns : goal.returns
returns c = stands-past
