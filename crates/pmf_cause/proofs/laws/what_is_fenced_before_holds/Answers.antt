use Rattle.pmf_cause.proofs.FencedLemmas.{before}
use Rattle.pmf_cause.proofs.laws.what_is_fenced_before_holds.Goals as goal

pub returns : goal.returns
returns c = before
