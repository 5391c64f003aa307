-- Text lines that are one record, and what an event's canonical text line reads as.
use Rattle.std.proofs.{Common.{◌≡◌, ℕ, ◌≤◌, true, false, List, ◌++◌, None, Some, length, All, refl, arith, length-append, Ok, nat_le, codes, le-leb}, lemmas.List.Folds.{list_any_none, list_any_at}, lemmas.Slice.Eq.{bytes_eq-Decides}, lemmas.Grind.{common_steps}}
use Rattle.memchr.specs.Find.{IsFirstByte, is_byte3}
use Rattle.pmf_event.specs.declared.event.Event.{Event}
use Rattle.pmf_storelog.{specs.declared.fault.TheConstants.{LOG_LIMIT}, specs.declared.record.Saying.TheVariants.{Happens}, specs.Separators.{is_separator}, specs.Records.{fields_of, record_of, saying_of, saying_of_fields, section_of_fields}, specs.Canonical.{name_of, fields_of_event}, specs.Lines.{is_one_record, names_a_section, names_a_section_first, event_of_record, event_of_line}, specs.Spelling.{AllValid}, proofs.PlainRecordLemmas.{IsPlain, trimmed-plain}, proofs.PlainLemmas.{text_of_event, text_of_event-plain}, proofs.RoundTripLemmas.{line-length}, proofs.SpellingLemmas.{record_of-event}, proofs.SplitLemmas.{none_pass}}

-- what a search for a separator says of a text line
pub one_record_none : (line : List ℕ) → IsFirstByte (is_byte3 124 10 13) line None → nat_le (length line) LOG_LIMIT ≡ is_one_record line
unfolding is_one_record
one_record_none line none = rw (list_any_none is_separator line (none_pass is_separator line none)) refl

pub one_record_some : (line : List ℕ) (k : ℕ) → IsFirstByte (is_byte3 124 10 13) line (Some k) → false ≡ is_one_record line
unfolding is_one_record
one_record_some line k found = rw (list_any_at is_separator line k 0 found.0.high found.1) refl

-- a text line that is a record as it stands
one_record-plain : (line : List ℕ) → IsPlain line → length line ≤ LOG_LIMIT → is_one_record line ≡ true
unfolding is_one_record
one_record-plain line plain short = rw (list_any_none is_separator line plain.whole, le-leb (length line) LOG_LIMIT short) refl

unmarked : (event : Event) (fields : List (List ℕ)) → saying_of_fields fields ≡ Ok (Happens event) → names_a_section_first fields ≡ false
unfolding section_of_fields saying_of
unmarked event fields says = grind (arith, common_steps, bytes_eq-Decides)

names-no_section : (event : Event) (text : List ℕ) → record_of text ≡ Ok (Happens event) → names_a_section text ≡ false
unfolding names_a_section record_of
names-no_section event text says = unmarked event (fields_of text) says

event_of_record-is : (event : Event) (text : List ℕ) → record_of text ≡ Ok (Happens event) → event_of_record text ≡ Ok event
unfolding event_of_record
event_of_record-is event text says = rw (names-no_section event text says, says) refl

event_of_line-plain : (event : Event) (line : List ℕ) → IsPlain line → length line ≤ LOG_LIMIT → record_of line ≡ Ok (Happens event) → event_of_line line ≡ Ok event
unfolding event_of_line
event_of_line-plain event line plain short says = rw (one_record-plain line plain short, trimmed-plain line plain) (event_of_record-is event line says)

-- an event's canonical text line, without its end
pub text-short : (event : Event) → AllValid event → length (text_of_event event) ≤ 91
text-short event valid = omega (arith, line-length event valid, length-append (name_of event ++ fields_of_event event) (codes "\n"))

-- reads as the event
pub event_of_line-event : (event : Event) → AllValid event → event_of_line (text_of_event event) ≡ Ok event
event_of_line-event event valid = event_of_line-plain event (text_of_event event) (text_of_event-plain event valid) (omega (arith, text-short event valid)) (record_of-event event valid)

-- no separator stands in it
pub text-one_line : (event : Event) → AllValid event → All (λ c. is_separator c ≡ false) (text_of_event event)
text-one_line event valid = (text_of_event-plain event valid).whole
