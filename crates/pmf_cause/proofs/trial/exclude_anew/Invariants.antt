use Rattle.std.proofs.Common.{◌≡◌, false, take}
use Rattle.std.specs.List.{list_any}
use Rattle.pmf_cause.specs.Cure.{excludes_anew}
use Rattle.pmf_cause.proofs.trial.exclude_anew.Given as goal

abbrev pub invariant-loop-edit : goal.invariant-loop-edit
invariant-loop-edit l = list_any (excludes_anew l.events) (take l.edit-index l.edits) ≡ false
