-- What the bytes of a log say: its sections, or its first fault. Defined here.
use Rattle.std.specs.Prelude.{◌≡◌, ℕ, zero, suc, ◌+◌, Bool, true, false, nat_lt, ◌==◌, List, [], ◌∷◌, ◌++◌, length, take, map, filter, slice_index_or, Option, Some, None, Result, Ok, Err, if◌then◌else◌, count_by}
use Rattle.pmf_event.specs.{declared.event.Event.{Event}, declared.section.TheConstants.{EVENT_LIMIT}, Section.{Trace}}
use Rattle.pmf_storelog.specs.{declared.fault.TheConstants.{LOG_LIMIT, SECTION_LIMIT}, declared.fault.Cause.{Cause}, declared.fault.Cause.TheVariants.{TooManySections, TooManyEvents, TooLong, OutOfMemory, Spent}, declared.fault.LogFault.{LogFault}, declared.record.Saying.{Saying}, declared.record.Saying.TheVariants.{Happens, Enters, Skipped}, Separators.{records_of, ended_records}, Records.{record_of}, Rising.{in_order}, LogValue.{LogValue}}

-- want of memory, which is no record's
abbrev pub out_of_memory : LogFault
out_of_memory = record { at = 0; cause = OutOfMemory }

-- a call of a reader that has refused already
abbrev pub spent : LogFault
spent = record { at = 0; cause = Spent }

-- what the record of index k says
unfoldable pub reading_at : List (List ℕ) → ℕ → Result Saying Cause
reading_at records k = record_of (slice_index_or records k [])

-- the number that is current after a reading, where another one was before it
abbrev pub number_after : Result Saying Cause → ℕ → ℕ
number_after (Ok (Happens event)) before = before
number_after (Ok (Enters number)) before = number
number_after (Ok Skipped) before = before
number_after (Err cause) before = before

-- the number of the last section marker among the first k records, or 0
unfoldable pub current_at : List (List ℕ) → ℕ → ℕ
current_at records zero = 0
current_at records (suc k) = number_after (reading_at records k) (current_at records k)

-- the number that is current after all of the records
unfoldable pub current_of : List (List ℕ) → ℕ
current_of records = current_at records (length records)

-- the event of a reading with the number current at it, if it is one
abbrev pub numbered : ℕ → Result Saying Cause → List (ℕ × Event)
numbered current (Ok (Happens event)) = (current, event) ∷ []
numbered current (Ok (Enters number)) = []
numbered current (Ok Skipped) = []
numbered current (Err cause) = []

-- the events of the first k records, each with the number current at it
unfoldable pub numbered_among : List (List ℕ) → ℕ → List (ℕ × Event)
numbered_among records zero = []
numbered_among records (suc k) = numbered_among records k ++ numbered (current_at records k) (reading_at records k)

-- the events of a list of records, each with the number current at it
unfoldable pub numbered_events : List (List ℕ) → List (ℕ × Event)
numbered_events records = numbered_among records (length records)

-- the events of the section with this number: those at which it was current
unfoldable pub events_in : List (List ℕ) → ℕ → List Event
events_in records number = map (λ entry. entry.1) (filter (λ entry. entry.0 == number) (numbered_events records))

-- the number of the section that a reading is of: a marker's, or the one current at an event
abbrev pub entered : ℕ → Result Saying Cause → List ℕ
entered current (Ok (Happens event)) = current ∷ []
entered current (Ok (Enters number)) = number ∷ []
entered current (Ok Skipped) = []
entered current (Err cause) = []

-- the numbers of the sections that the first k records are of, in the order of the log
unfoldable pub entered_among : List (List ℕ) → ℕ → List ℕ
entered_among records zero = []
entered_among records (suc k) = entered_among records k ++ entered (current_at records k) (reading_at records k)

-- the numbers of the sections that a list of records is of, in the order of the log, repeats included
unfoldable pub entered_of : List (List ℕ) → List ℕ
entered_of records = entered_among records (length records)

-- the numbers of the sections of a list of records: each once, rising
unfoldable pub numbers_of : List (List ℕ) → List ℕ
numbers_of records = in_order (entered_of records)

-- whether a reading is skipped
abbrev pub says_nothing : Result Saying Cause → Bool
says_nothing (Ok (Happens event)) = false
says_nothing (Ok (Enters number)) = false
says_nothing (Ok Skipped) = true
says_nothing (Err cause) = false

-- whether the record is skipped
unfoldable pub is_skipped : List ℕ → Bool
is_skipped text = says_nothing (record_of text)

-- how many records of a list are skipped
unfoldable pub skipped_of : List (List ℕ) → ℕ
skipped_of records = count_by is_skipped records

-- why a record with this reading is refused after records of sections with these numbers, and so many
-- events in the current one, if it is; where no record before it was refused, neither is past its limit
abbrev pub cause_after : List ℕ → ℕ → Result Saying Cause → Option Cause
cause_after before events (Ok (Happens event)) = if events == EVENT_LIMIT then Some TooManyEvents else None
cause_after before events (Ok (Enters number)) =
    if nat_lt SECTION_LIMIT (length (in_order (number ∷ before))) then Some TooManySections else None
cause_after before events (Ok Skipped) = None
cause_after before events (Err cause) = Some cause

-- the cause as the fault of the record of this number, if there is one
abbrev pub fault_at : ℕ → Option Cause → Option LogFault
fault_at number None = None
fault_at number (Some cause) = Some (record { at = number; cause = cause })

-- why a record with this reading is refused after these records, if it is
unfoldable pub refusal_after : List (List ℕ) → Result Saying Cause → Option LogFault
refusal_after before reading =
    fault_at (length before + 1) (cause_after (entered_of before) (length (events_in before (current_of before))) reading)

-- why the record of index k is refused, if it is: by itself, or by what the records before it say
unfoldable pub refusal_at : List (List ℕ) → ℕ → Option LogFault
refusal_at records k = refusal_after (take k records) (reading_at records k)

-- the first fault, or else the second one
abbrev pub or_else : Option LogFault → Option LogFault → Option LogFault
or_else (Some fault) later = Some fault
or_else None later = later

-- the first fault among the first n records
unfoldable pub first_fault_among : List (List ℕ) → ℕ → Option LogFault
first_fault_among records zero = None
first_fault_among records (suc n) = or_else (first_fault_among records n) (refusal_at records n)

-- the first fault of a list of records
unfoldable pub first_fault : List (List ℕ) → Option LogFault
first_fault records = first_fault_among records (length records)

-- TooLong after these records, where the log has more bytes than the limit
unfoldable pub too_long : ℕ → List ℕ → List (List ℕ) → Option LogFault
too_long limit bytes records =
    if nat_lt limit (length bytes) then Some (record { at = length records + 1; cause = TooLong }) else None

-- the fault that bytes show under a limit: of a record that a separator ended within it, or TooLong
unfoldable pub shown_within : ℕ → List ℕ → Option LogFault
shown_within limit bytes =
    let records = ended_records (take limit bytes) in or_else (first_fault records) (too_long limit bytes records)

-- the first fault of a log, under a limit: within it that of any record, past it the one that is shown
unfoldable pub fault_within : ℕ → List ℕ → Option LogFault
fault_within limit bytes =
    if nat_lt limit (length bytes) then shown_within limit bytes else first_fault (records_of bytes)

-- the fault that the bytes show whatever follows them
unfoldable pub shown_fault : List ℕ → Option LogFault
shown_fault bytes = shown_within LOG_LIMIT bytes

-- the first fault of the log with these bytes
unfoldable pub fault_of : List ℕ → Option LogFault
fault_of bytes = fault_within LOG_LIMIT bytes

-- the fault is the first one of every log that begins with these bytes
abbrev pub IsFaultOfAll : LogFault → List ℕ → Type 0
IsFaultOfAll fault bytes = (rest : List ℕ) → fault_of (bytes ++ rest) ≡ Some fault

-- the section of the run with this number and these events
abbrev pub section_named : ℕ → ℕ → List Event → Trace
section_named run number events = record { name = record { run = run; number = number }; events = events }

-- the sections of the records: one for each number, with its events
unfoldable pub sections_of : ℕ → List (List ℕ) → List Trace
sections_of run records = map (λ number. section_named run number (events_in records number)) (numbers_of records)

-- the value of a log without a fault
unfoldable pub value_of : ℕ → List ℕ → LogValue
value_of run bytes = record {
  sections = sections_of run (records_of bytes);
  skipped = skipped_of (records_of bytes);
}

-- the value, unless there is a fault
abbrev pub value_unless : Option LogFault → LogValue → Result LogValue LogFault
value_unless None value = Ok value
value_unless (Some fault) value = Err fault

-- what a log of this run says: its value, or its first fault
unfoldable pub log_of : ℕ → List ℕ → Result LogValue LogFault
log_of run bytes = value_unless (fault_of bytes) (value_of run bytes)
