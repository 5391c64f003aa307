-- The names of the stores that lack a write-back, a fence or an assertion. Defined here.
use Rattle.std.specs.Prelude.{ℕ, zero, suc, Bool, ◌&&◌, List, [], ◌∷◌, ◌++◌, length, Option, None, Some, slice_get, slice_index_or, flat_map, if◌then◌else◌}
use Rattle.pmf_event.specs.{declared.event.Event.{Event}, Section.{Trace}}
use Rattle.pmf_storelog.specs.{Records.{fields_of}, Separators.{records_of}, LogText.{sections_of}}
use Rattle.pmf_query.specs.{declared.locate.Located.{Located}, Locating.{AreLocations}}
use Rattle.pmf_lint.specs.{declared.storing.StoreNames.{StoreNames}, Counting.{Lists}, Covering.{is_uncovered}, Leaving.{leaves_unfenced, leaves_unwritten}}

-- the text, or the other one where it is empty
abbrev pub or_instead : List ℕ → List ℕ → List ℕ
or_instead [] other = other
or_instead (b ∷ text) other = b ∷ text

-- the name of a store: the first field of its record behind those that are read, or its address where that one is empty or missing
unfoldable pub store_name : List ℕ → List ℕ
store_name text = or_instead (slice_index_or (fields_of text) 4 []) (slice_index_or (fields_of text) 1 [])

-- the name of the store whose record stands there, if one does
abbrev pub name_there : Option Located → List (List ℕ)
name_there None = []
name_there (Some l) = store_name l.text.now ∷ []

-- the names of the stores at those of the places 1 to n that pass the test, from where the events of their section stand
unfoldable pub names_among : (ℕ → Bool) → List Located → ℕ → List (List ℕ)
names_among test stands zero = []
names_among test stands (suc k) = names_among test stands k ++ (if test (suc k) then name_there (slice_get stands k) else [])

-- the names of the stores of some sections that pass the test, section by section, from where the events of each section stand
unfoldable pub names_over : (ℕ → List Located) → (List Event → ℕ → Bool) → List Trace → List (List ℕ)
names_over stands test sections = flat_map (λ (t : Trace). names_among (test t.events) (stands t.name.number) (length t.events)) sections

-- whether place k is a store that no later assertion covers, where these are asked for
abbrev pub is_asked : Bool → List Event → ℕ → Bool
is_asked asked es k = asked && is_uncovered es k

-- these are the names of the stores of some sections: of those that lack a write-back, of the others that lack a fence, and, where it is
-- asked, of those that lack an assertion
pub record AreNamed (stands : ℕ → List Located) (asked : Bool) (sections : List Trace) (names : StoreNames) : Type 0 where
  pub unwritten : Lists names.unwritten (names_over stands leaves_unwritten sections)
  pub unfenced : Lists names.unfenced (names_over stands leaves_unfenced sections)
  pub unasserted : Lists names.unasserted (names_over stands (is_asked asked) sections)

-- the same, from where the events of a log stand
abbrev pub AreNamesIn : List ℕ → Bool → List Trace → StoreNames → Type 0
AreNamesIn bytes asked sections names = (stands : ℕ → List Located) × ((number : ℕ) → AreLocations bytes number (stands number)) × AreNamed stands asked sections names

-- the same of the sections of a log
abbrev pub AreStoreNames : List ℕ → Bool → StoreNames → Type 0
AreStoreNames bytes asked names = AreNamesIn bytes asked (sections_of 0 (records_of bytes)) names
