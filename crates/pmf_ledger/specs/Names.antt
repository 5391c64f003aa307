-- The order of sections' names: by run, then by number. Defined here.
use Rattle.std.specs.Prelude.{◌≡◌, ◌⊎◌, ◌<◌, List, AllPairs}
use Rattle.pmf_event.specs.declared.name.Name.{Name}
use Rattle.pmf_verdict.specs.Checked.{Checked}

-- the name comes before the other
-- example: 0.1 comes before 1.0
abbrev pub IsBefore : Name → Name → Type 0
IsBefore a b = (a.run < b.run) ⊎ ((a.run ≡ b.run) × (a.number < b.number))

-- the section's name comes before the other's
-- example: section 0.1 comes before section 1.0
abbrev pub ComesBefore : Checked → Checked → Type 0
ComesBefore a b = IsBefore a.section.name b.section.name

-- each name comes before all that follow
-- example: those of 0.0, 0.1 and 1.0 do
abbrev pub Rises : List Checked → Type 0
Rises sections = AllPairs ComesBefore sections
