use Rattle.pmf_command.proofs.MergeLemmas.{merges_join}
use Rattle.pmf_command.proofs.laws.merges_are_joins.Goals as goal

pub returns : goal.returns
returns c = merges_join
