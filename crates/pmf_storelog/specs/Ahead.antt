-- What is read of a piece before its turn: records that add their events to whatever section is current. Defined here.
use Rattle.std.specs.Prelude.{◌≡◌, ℕ, ◌+◌, ◌-◌, ◌≤◌, List, [], ◌∷◌, ◌++◌, None, All, length, take, drop}
use Rattle.pmf_event.specs.{declared.event.Event.{Event}, declared.section.TheConstants.{EVENT_LIMIT}}
use Rattle.pmf_storelog.specs.{LogText.{current_of, events_in, first_fault, numbers_of, skipped_of}, Rising.{with_number}, Sections.{with_events}, Separators.{ended_parts, ended_records, parts_of}, declared.ahead.Ahead.{Ahead}, declared.plain.Plain.{Plain}, declared.stretch.Stretch.{Stretch}}

-- rising numbers with that of the section that takes these events, if there are any
abbrev pub with_number_of : List ℕ → ℕ → List Event → List ℕ
with_number_of numbers current [] = numbers
with_number_of numbers current (event ∷ events) = with_number numbers current

-- the records after say what those before say, and these events more in the section that is current, and so many skipped records more; where the section has room for them, there is no fault more
pub record AddsTo (before after : List (List ℕ)) (events : List Event) (skipped : ℕ) : Type 0 where
  pub current : current_of after ≡ current_of before
  pub numbers : numbers_of after ≡ with_number_of (numbers_of before) (current_of before) events
  pub events_are : (number : ℕ) → events_in after number ≡ with_events (events_in before) (current_of before) events number
  pub skipped_are : skipped_of after ≡ skipped_of before + skipped
  pub faultless : first_fault before ≡ None → length (events_in before (current_of before)) + length events ≤ EVENT_LIMIT → first_fault after ≡ None

-- behind whatever records these stand, they add just what was kept of them
pub record IsPlain (records : List (List ℕ)) (plain : Plain) : Type 0 where
  pub adds : (before : List (List ℕ)) → AddsTo before (before ++ records) plain.section.events plain.skipped
  pub count : plain.records ≡ length records

-- the bytes of the piece from one place up to another
abbrev pub between : List ℕ → ℕ → ℕ → List ℕ
between piece from end = take (end - from) (drop from piece)

-- the bytes end with a separator, or there are none
abbrev pub IsClosed : List ℕ → Type 0
IsClosed bytes = parts_of bytes ≡ ended_parts bytes ++ [] ∷ []

-- the stretch of the piece has ended records alone, and this was kept of them
pub record IsStretchOf (piece : List ℕ) (stretch : Stretch) : Type 0 where
  pub rises : stretch.from ≤ stretch.end
  pub within : stretch.end ≤ length piece
  pub closed : IsClosed (between piece stretch.from stretch.end)
  pub plain : IsPlain (ended_records (between piece stretch.from stretch.end)) stretch.plain
  pub few : stretch.plain.records ≤ stretch.end - stretch.from

-- what was read before its turn is of this piece
abbrev pub IsAheadOf : List ℕ → Ahead → Type 0
IsAheadOf piece ahead = All (IsStretchOf piece) ahead.stretches.items
