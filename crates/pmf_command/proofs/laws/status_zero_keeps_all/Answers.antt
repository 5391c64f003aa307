use Rattle.pmf_command.proofs.CheckedLemmas.{ends_kept}
use Rattle.pmf_command.proofs.laws.status_zero_keeps_all.Goals as goal

pub returns : goal.returns
returns c = ends_kept
