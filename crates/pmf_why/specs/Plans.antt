-- The changes that are to cure all rows of a section. Defined here.
use Rattle.std.specs.{Prelude.{◌≡◌, List, []}, Option.{MatchOption}}
use Rattle.pmf_verdict.specs.Checked.{Checked, rows_in}
use Rattle.pmf_cause.specs.{declared.edit.Edit.{Edit}, Cure.{cured, IsTrial}}
use Rattle.pmf_why.specs.{declared.plan.Plan.{Plan}, declared.plan.Counts.{Counts}, Counting.{counts_in}}

-- the section was tried with the changes, or there are none
abbrev pub IsPlan : Checked → Plan → Type 0
IsPlan checked plan = MatchOption plan.trial (plan.edits.items ≡ []) (IsTrial checked plan.edits.items)

-- how many rows pass and fail in a section with the changes
abbrev pub counts_with : Checked → List Edit → Counts
counts_with checked edits = counts_in (rows_in (cured checked edits))
