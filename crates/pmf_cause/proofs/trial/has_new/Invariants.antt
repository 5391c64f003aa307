use Rattle.std.proofs.Common.{◌≡◌, false, List, take}
use Rattle.std.specs.List.{list_any}
use Rattle.pmf_event.specs.declared.row.Row.{Row}
use Rattle.pmf_cause.specs.Cure.{is_new, IsFailing}
use Rattle.pmf_cause.proofs.trial.has_new.Given as goal

abbrev pub invariant-loop-row : goal.invariant-loop-row
invariant-loop-row l = (before : List Row) → IsFailing before l.failed → list_any (is_new l.places before) (take l.row-index l.rows) ≡ false
