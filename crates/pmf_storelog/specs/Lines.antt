-- What a text line says that is to be one event. Defined here.
use Rattle.std.specs.{Prelude.{ℕ, Bool, false, nat_le, List, [], ◌∷◌, length, Result, Ok, Err, if◌then◌else◌, codes, bytes_eq}, List.{list_any}}
use Rattle.pmf_event.specs.declared.event.Event.{Event}
use Rattle.pmf_storelog.specs.{declared.fault.TheConstants.{LOG_LIMIT}, declared.fault.Cause.{Cause}, declared.line.LineFault.{LineFault}, declared.line.LineFault.TheVariants.{NoEvent, Refused}, declared.record.Saying.{Saying}, declared.record.Saying.TheVariants.{Happens, Enters, Skipped}, Separators.{is_separator, trimmed}, Records.{fields_of, record_of}}

-- whether the text line has no more bytes than a log may have, and none of them is a separator
unfoldable pub is_one_record : List ℕ → Bool
is_one_record line = if list_any is_separator line then false else nat_le (length line) LOG_LIMIT

-- whether the first of these fields is the name of a section's marker
abbrev pub names_a_section_first : List (List ℕ) → Bool
names_a_section_first [] = false
names_a_section_first (name ∷ fields) = bytes_eq name (codes "PMT.SECTION")

-- whether the record has the name of a section's marker, whatever its fields
unfoldable pub names_a_section : List ℕ → Bool
names_a_section text = names_a_section_first (fields_of text)

-- the event that a record says, where it says one
abbrev pub event_of_saying : Result Saying Cause → Result Event LineFault
event_of_saying (Ok (Happens event)) = Ok event
event_of_saying (Ok (Enters number)) = Err NoEvent
event_of_saying (Ok Skipped) = Err NoEvent
event_of_saying (Err cause) = Err (Refused cause)

-- the event of a record; a section's marker is none, whether or not a log would refuse it
unfoldable pub event_of_record : List ℕ → Result Event LineFault
event_of_record text = if names_a_section text then Err NoEvent else event_of_saying (record_of text)

-- the event of a text line that is one record
unfoldable pub event_of_line : List ℕ → Result Event LineFault
event_of_line line = if is_one_record line then event_of_record (trimmed line) else Err NoEvent
