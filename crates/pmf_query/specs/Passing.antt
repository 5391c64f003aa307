-- What is kept of the records that a walk has passed. Defined here.
use Rattle.std.specs.Prelude.{◌≡◌, ℕ, ◌+◌, List, [], ◌∷◌, length}
use Rattle.pmf_event.specs.declared.event.Event.{Event}
use Rattle.pmf_storelog.specs.{LogText.{current_of, events_in, numbered}, Records.{record_of}}
use Rattle.pmf_query.specs.declared.passing.Passed.{Passed}

-- what is kept is that of these records, as they speak of this section
pub record HasPassed (section : ℕ) (records : List (List ℕ)) (passed : Passed) : Type 0 where
  pub count : passed.records ≡ length records
  pub current : passed.current ≡ current_of records
  pub events : passed.events ≡ length (events_in records section)

-- behind these records the text gives the event of this number of the section
pub record GivesNext (records : List (List ℕ)) (section place : ℕ) (text : List ℕ) : Type 0 where
  pub event : Event
  pub says : numbered (current_of records) (record_of text) ≡ (section, event) ∷ []
  pub behind : length (events_in records section) + 1 ≡ place
