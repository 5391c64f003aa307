-- A section that was checked, as a value.
use Rattle.std.specs.Prelude.{List}
use Rattle.pmf_event.specs.{declared.profile.Profile.{Profile}, declared.row.Row.{Row}, Section.{Trace}}
use Rattle.pmf_verdict.specs.Rows.{rows_of}

-- the section, and the profile by which it was checked
-- example: section 0.0 by profile One
pub record Checked : Type 0 where
  pub section : Trace
  pub profile : Profile

-- its rows
abbrev pub rows_in : Checked → List Row
rows_in checked = rows_of checked.profile checked.section.events

-- the section, checked by the profile
-- example: of One and section 0.0 it is section 0.0 by profile One
abbrev pub checked_by : Profile → Trace → Checked
checked_by profile section = record { section = section; profile = profile }
