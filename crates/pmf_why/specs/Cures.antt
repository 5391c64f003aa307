-- What is told as a cure of a row. Defined here.
use Rattle.std.specs.{Prelude.{List}, List.{All}}
use Rattle.std.specs.Prelude.{Contains}
use Rattle.pmf_cause.specs.{declared.edit.Edit.{Edit}, Cure.{Cures}}
use Rattle.pmf_why.specs.{declared.cure.Way.{Way}, declared.cure.Way.TheVariants.{NotFound, Alone, WithAll}, Reasons.{Bad}}

-- the changes that are to cure all rows of its section together cure the row
abbrev pub IsInPlan : Bad → Type 0
IsInPlan bad = Cures bad.part.checked bad.part.plan bad.row

-- the changes are what is told: nothing, where none was found; or, of a row that is cured by those of its section, changes that cure it by
-- themselves, too; or some of those
abbrev pub IsCure : Bad → List Edit → Way → Type 0
IsCure bad edits NotFound = Unit {0}
IsCure bad edits Alone = IsInPlan bad × Cures bad.part.checked edits bad.row
IsCure bad edits WithAll = IsInPlan bad × All (λ e. Contains bad.part.plan e) edits
