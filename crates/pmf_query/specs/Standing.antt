-- What is kept of where the events of each section stand. No public clause but `stand`'s cites this.
use Rattle.std.specs.{Prelude.{◌≡◌, ◌≢◌, ℕ, ◌+◌, List, [], ◌∷◌, ◌++◌, Some, length, slice_get}, Option.{option_map, unwrap_or}, Ordering.{nat_cmp}, BTreeMap.{get}}
use Rattle.pmf_query.specs.{declared.locate.Located.{Located}, declared.passing.Passed.{Passed}, declared.standing.Standing.{Standing}, declared.standing.Walked.{Walked}, Locating.{AreLocations, IsLocation}, Passing.{HasPassed}}

-- where the events of the section stand: nothing is kept of a section without any
abbrev pub located_in : Standing → ℕ → List Located
located_in s section = unwrap_or (option_map (λ found. found.items) (get nat_cmp s.places section)) []

-- where the events of each section stand
abbrev pub Stands : List ℕ → Standing → Type 0
Stands bytes s = (section : ℕ) → AreLocations bytes section (located_in s section)

-- new is old with one more location of the section
pub record AddsLocation (section : ℕ) (l : Located) (old new : Standing) : Type 0 where
  pub here : located_in new section ≡ located_in old section ++ l ∷ []
  pub elsewhere : (other : ℕ) → other ≢ section → located_in new other ≡ located_in old other

-- what the records that were passed say of one section
abbrev pub passed_of : Walked → ℕ → Passed
passed_of w section = record { records = w.records; current = w.current; events = length (located_in w.standing section) }

-- what is kept is that of these records of a log
pub record HasWalked (bytes : List ℕ) (records : List (List ℕ)) (w : Walked) : Type 0 where
  pub passed : (section : ℕ) → HasPassed section records (passed_of w section)
  pub each : (section k : ℕ) (l : Located) → slice_get (located_in w.standing section) k ≡ Some l → IsLocation bytes section (k + 1) l.record l.offset l.text.now
