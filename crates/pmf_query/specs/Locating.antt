-- Where an event of a section stands in its log: the record that gave it, and where that record begins. Defined here.
use Rattle.std.specs.Prelude.{◌≡◌, ℕ, ◌+◌, ◌<◌, List, [], ◌∷◌, ◌++◌, length, take, drop, slice_get, None, Some, codes, decimal, flat_map}
use Rattle.pmf_event.specs.declared.event.Event.{Event}
use Rattle.pmf_storelog.specs.{Separators.{records_of}, LogText.{reading_at, current_at, numbered, events_in, fault_of}}
use Rattle.pmf_query.specs.{Ascii.{shown_byte}, declared.locate.Located.{Located}}

-- record k, counted from 0, gave event number `place` of the section: it happened there, behind `place` - 1 others
pub record Gives (records : List (List ℕ)) (section place : ℕ) (event : Event) (k : ℕ) : Type 0 where
  pub within : k < length records
  pub says : numbered (current_at records k) (reading_at records k) ≡ (section, event) ∷ []
  pub behind : length (events_in (take k records) section) + 1 ≡ place

-- record k, counted from 0, is this text and begins at this offset: before it there are the k records before it
pub record StandsAt (bytes : List ℕ) (k offset : ℕ) (text : List ℕ) : Type 0 where
  pub is : slice_get (records_of bytes) k ≡ Some text
  pub before : records_of (take offset bytes) ≡ take k (records_of bytes)
  pub here : take (length text) (drop offset bytes) ≡ text

-- the record of this number, counted from 1, gave the event, and it is this text at this offset
pub record IsLocation (bytes : List ℕ) (section place number offset : ℕ) (text : List ℕ) : Type 0 where
  pub index : ℕ
  pub numbered_so : number ≡ index + 1
  pub event : Event
  pub gives : Gives (records_of bytes) section place event index
  pub stands : StandsAt bytes index offset text

-- each of these is where the event of its number of the section stands, counted from 1, and there are as many as the section has events
pub record AreLocations (bytes : List ℕ) (section : ℕ) (found : List Located) : Type 0 where
  pub each : (k : ℕ) (l : Located) → slice_get found k ≡ Some l → IsLocation bytes section (k + 1) l.record l.offset l.text.now
  pub all : length found ≡ length (events_in (records_of bytes) section)

-- the bytes are a log without a fault
abbrev pub IsFaultless : List ℕ → Type 0
IsFaultless bytes = fault_of bytes ≡ None

-- the log is faultless, and the event, which it has, is located
pub record IsLocated (bytes : List ℕ) (section place number offset : ℕ) (text : List ℕ) : Type 0 where
  pub faultless : IsFaultless bytes
  pub located : IsLocation bytes section place number offset text

-- `record=N offset=O length=L` and the record in ASCII, each with the end of its text line
unfoldable pub text_of_location : ℕ → ℕ → List ℕ → List ℕ
text_of_location number offset text =
    codes "record=" ++ decimal number ++ codes " offset=" ++ decimal offset ++ codes " length=" ++ decimal (length text) ++ codes "\n"
    ++ flat_map (λ b. shown_byte b) text ++ codes "\n"

-- the text of the event's location
abbrev pub IsLocationText : ℕ → ℕ → List ℕ → List ℕ → Type 0
IsLocationText section place bytes written =
    (number : ℕ) × (offset : ℕ) × (text : List ℕ) × IsLocated bytes section place number offset text × (written ≡ text_of_location number offset text)
