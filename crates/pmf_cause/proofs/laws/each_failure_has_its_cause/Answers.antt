use Rattle.pmf_cause.proofs.LawLemmas.{each_failure_has_its_cause}
use Rattle.pmf_cause.proofs.laws.each_failure_has_its_cause.Goals as goal

pub returns : goal.returns
returns c = each_failure_has_its_cause
