use Rattle.std.proofs.Common.{arith}
use Rattle.pmf_runs.proofs.RunRules.{level_splits}
use Rattle.pmf_runs.proofs.level.Level.split_at.Goals as goal

pub invariant_of-self-2 : goal.invariant_of-self-2
invariant_of-self-2 g c = grind (arith, level_splits)

pub returns-clause-same : goal.returns-clause-same
returns-clause-same g c = grind (arith, level_splits)

pub returns-clause-halved : goal.returns-clause-halved
returns-clause-halved g c = grind (arith, level_splits)
