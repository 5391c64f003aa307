-- Laws of where an event stands, which the empty public functions prove.
use Rattle.std.specs.Prelude.{◌≡◌, ℕ, ◌-◌, List, slice_get, Some}
use Rattle.pmf_event.specs.declared.event.Event.{Event}
use Rattle.pmf_storelog.specs.LogText.{events_in}
use Rattle.pmf_query.specs.Locating.{Gives, StandsAt}

-- two records that gave the event of one number of one section are one record
abbrev pub OneRecordGives : Type 0
OneRecordGives = (records : List (List ℕ)) (section place : ℕ) (event other : Event) (j k : ℕ) →
    Gives records section place event j → Gives records section place other k → j ≡ k

-- two offsets at which one record stands are one offset
abbrev pub OneOffset : Type 0
OneOffset = (bytes : List ℕ) (k o p : ℕ) (text other : List ℕ) → StandsAt bytes k o text → StandsAt bytes k p other → o ≡ p

-- what a record gave as the event of a number is the event that stands there among the section's
abbrev pub GivesItsEvent : Type 0
GivesItsEvent = (records : List (List ℕ)) (section place : ℕ) (event : Event) (k : ℕ) →
    Gives records section place event k → slice_get (events_in records section) (place - 1) ≡ Some event
