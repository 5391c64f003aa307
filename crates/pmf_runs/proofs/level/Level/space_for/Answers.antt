use Rattle.std.proofs.Common.{arith}
use Rattle.pmf_runs.proofs.RunRules.{level_space}
use Rattle.pmf_runs.proofs.level.Level.space_for.Goals as goal

pub returns-clause-same : goal.returns-clause-same
returns-clause-same g c = grind (arith, level_space)

pub returns-clause-space : goal.returns-clause-space
returns-clause-space g c = grind (arith, level_space)
