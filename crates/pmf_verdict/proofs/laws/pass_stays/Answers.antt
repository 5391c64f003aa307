use Rattle.pmf_verdict.proofs.StayingLemmas.{pass_stays}
use Rattle.pmf_verdict.proofs.laws.pass_stays.Goals as goal

pub returns : goal.returns
returns c = pass_stays
