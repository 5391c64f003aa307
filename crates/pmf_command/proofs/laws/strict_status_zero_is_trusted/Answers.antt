use Rattle.pmf_command.proofs.CheckedLemmas.{ends_trusted}
use Rattle.pmf_command.proofs.laws.strict_status_zero_is_trusted.Goals as goal

pub returns : goal.returns
returns c = ends_trusted
