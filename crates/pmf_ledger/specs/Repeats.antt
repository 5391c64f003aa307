-- Sections in a list: the one at a place, and names that stand twice. Defined here.
use Rattle.std.specs.Prelude.{ℕ, ◌+◌, ◌<◌, Bool, eqb, ◌&&◌, List, [], map, length, get_or, count_by, slice_index_or}
use Rattle.pmf_event.specs.{declared.name.Name.{Name}, Section.{Trace}}
use Rattle.pmf_ledger.specs.Names.{IsBefore}

-- no section: it stands for a place that the list hasn't
abbrev pub no_section : Trace
no_section = record { name = record { run = 0; number = 0 }; events = [] }

-- the section at this place, counted from 0
abbrev pub section_at : List Trace → ℕ → Trace
section_at sections k = get_or sections k no_section

-- the name is this one
abbrev pub is_name : Name → Name → Bool
is_name name n = eqb n.run name.run && eqb n.number name.number

-- the name stands more than once among names; it is the least such name; no name does
abbrev pub StandsTwiceIn : List Name → Name → Type 0
StandsTwiceIn names name = 1 < count_by (is_name name) names

abbrev pub IsLeastTwiceIn : List Name → Name → Type 0
IsLeastTwiceIn names name = StandsTwiceIn names name × ((other : Name) → StandsTwiceIn names other → IsBefore other name → ⊥)

abbrev pub AreOwn : List Name → Type 0
AreOwn names = (name : Name) → StandsTwiceIn names name → ⊥

-- the same of the names of sections
abbrev pub names_of : List Trace → List Name
names_of sections = map (λ s. s.name) sections

abbrev pub StandsTwice : List Trace → Name → Type 0
StandsTwice sections name = StandsTwiceIn (names_of sections) name

abbrev pub IsLeastTwice : List Trace → Name → Type 0
IsLeastTwice sections name = IsLeastTwiceIn (names_of sections) name

abbrev pub HaveOwnNames : List Trace → Type 0
HaveOwnNames sections = AreOwn (names_of sections)

-- no name comes before the one in front of it
abbrev pub DoNotFall : List Name → Type 0
DoNotFall names = (k : ℕ) (d : Name) → k + 1 < length names → IsBefore (slice_index_or names (k + 1) d) (slice_index_or names k d) → ⊥
