-- What the open sections of a run stand for: rising numbers, the events of each, and the current number.
-- Defined here.
use Rattle.std.specs.{Prelude.{◌≡◌, ℕ, ◌<◌, List, [], ◌++◌, ◌∷◌, ◌==◌, if◌then◌else◌, length, slice_index_or, Some, None, Option}, Ordering.{nat_cmp}, BTreeMap.{get, keys, insert_entry, IsOrdered, Updates}}
use Rattle.pmf_event.specs.{declared.event.Event.{Event}, Section.{Trace}}
use Rattle.pmf_storelog.specs.{declared.fault.TheConstants.{SECTION_LIMIT}, LogText.{section_named}, declared.sections.OpenSections.{OpenSections}}

-- the section stands at this place of the list
abbrev pub StandsAt : Trace → List Trace → ℕ → Type 0
StandsAt section sections place =
    (place < length sections) × ((d : Trace) → slice_index_or sections place d ≡ section)

-- the place of the current section, where there is any section
abbrev pub current_place : OpenSections → Option ℕ
current_place opened = if length opened.sections.items == 0 then None else Some opened.current

-- the events of each number, with more of this number
abbrev pub with_events : (ℕ → List Event) → ℕ → List Event → ℕ → List Event
with_events events current more number = if current == number then events number ++ more else events number

-- the same with one more
abbrev pub with_event : (ℕ → List Event) → ℕ → Event → ℕ → List Event
with_event events current event = with_events events current (event ∷ [])

-- there are sections of exactly these numbers, each with its events, and this number is current
pub record HasSections (run : ℕ) (numbers : List ℕ) (events : ℕ → List Event) (current : ℕ) (opened : OpenSections) : Type 0 where
  pub run_is : opened.run ≡ run
  pub ordered : IsOrdered nat_cmp opened.places
  pub numbers_are : keys opened.places ≡ numbers
  pub count : length opened.sections.items ≡ length numbers
  pub found : (number place : ℕ) → get nat_cmp opened.places number ≡ Some place → StandsAt (section_named run number (events number)) opened.sections.items place
  pub others : (number : ℕ) → get nat_cmp opened.places number ≡ None → events number ≡ []
  pub here : get nat_cmp opened.places current ≡ current_place opened
  pub before : length opened.sections.items ≡ 0 → current ≡ 0

-- new is old with one more section, of this number, which is current
pub record Opens (number : ℕ) (old new : OpenSections) : Type 0 where
  pub room : length old.sections.items < SECTION_LIMIT
  pub run_is : new.run ≡ old.run
  pub list : new.sections.items ≡ old.sections.items ++ section_named old.run number [] ∷ []
  pub updates : Updates nat_cmp old.places new.places number (Some (length old.sections.items))
  pub entries : new.places.entries ≡ insert_entry nat_cmp old.places.entries number (length old.sections.items)
  pub ordered : IsOrdered nat_cmp new.places
  pub here : new.current ≡ length old.sections.items
