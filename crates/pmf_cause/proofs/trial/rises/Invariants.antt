use Rattle.std.proofs.Common.{drop}
use Rattle.pmf_cause.specs.Changed.{RisesFrom}
use Rattle.pmf_cause.proofs.trial.rises.Given as goal

abbrev pub invariant-loop-edit : goal.invariant-loop-edit
invariant-loop-edit l = RisesFrom l.least (drop l.edit-index l.edits) → RisesFrom 1 l.edits
