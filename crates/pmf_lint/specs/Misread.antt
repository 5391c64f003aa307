-- Assertions that write an address in decimal, had nothing to check, and would have if it were hexadecimal. Defined here.
use Rattle.std.specs.{Prelude.{ℕ, zero, suc, ◌-◌, Bool, false, not, ◌&&◌, ◌||◌, ◌==◌, List, [], ◌++◌, length, take, slice_index_or, codes, decimal, Option, None, Some, slice_get, is_some, Result, Ok}, List.{list_any}}
use Rattle.pmf_event.specs.{declared.event.Event.{Event}, declared.event.Event.TheVariants.{Persist, Ordered}, Span.{Extent}, Ranges.{first_byte}, Store.{event_at}, Persist.{is_checked}}
use Rattle.pmf_storelog.specs.{declared.record.Saying.{Saying}, declared.record.Saying.TheVariants.{Happens}, declared.fault.Cause.{Cause}, Records.{record_of}, LogText.{current_at, events_in, numbered, numbers_of, reading_at}}
use Rattle.pmf_query.specs.{declared.locate.Located.{Located}, Decimal.{asserts_decimal}}

-- whether a byte of the span is checked at p
abbrev pub is_met : List Event → ℕ → Extent → Bool
is_met es p s = is_some (first_byte (is_checked es p) s)

-- the same of the span that an assertion of persistence names, and not of any other record
abbrev pub is_met_as_read : List Event → ℕ → Result Saying Cause → Bool
is_met_as_read es p (Ok (Happens (Persist s))) = is_met es p s
is_met_as_read es p _ = false

-- the assertion of so many bytes as a log has it, with `0x` before the decimal digits of their address
unfoldable pub text_as_hexadecimal : ℕ → ℕ → List ℕ
text_as_hexadecimal first size = codes "PMT.PERSIST;0x" ++ decimal first ++ codes ";" ++ decimal size

-- what that record says of a span
abbrev pub read_as_hexadecimal : Extent → Result Saying Cause
read_as_hexadecimal s = record_of (text_as_hexadecimal s.first s.size)

-- whether a byte of the span is checked at p, as the address stands there or as it reads in hexadecimal
abbrev pub may_be_met : List Event → ℕ → Extent → Bool
may_be_met es p s = is_met es p s || is_met_as_read es p (read_as_hexadecimal s)

-- whether the event is an assertion that has nothing to check at p: no byte of its span is checked, or of one of its two
abbrev pub lacks_bytes : List Event → ℕ → Option Event → Bool
lacks_bytes es p (Some (Persist s)) = not (is_met es p s)
lacks_bytes es p (Some (Ordered s t)) = not (is_met es p s && is_met es p t)
lacks_bytes es p _ = false

-- whether place k is such an assertion
unfoldable pub is_unmet : List Event → ℕ → Bool
is_unmet es k = lacks_bytes es k (event_at es k)

-- whether the event is an assertion that is EMPTY at p, and would not be if such an address were hexadecimal
abbrev pub misreads : List Event → ℕ → Option Event → Bool
misreads es p (Some (Persist s)) = not (is_met es p s) && may_be_met es p s
misreads es p (Some (Ordered s t)) = not (is_met es p s && is_met es p t) && (may_be_met es p s && may_be_met es p t)
misreads es p _ = false

-- whether place k is such an assertion, by what stands before it
unfoldable pub is_misread : List Event → ℕ → Bool
is_misread es k = misreads es (k - 1) (event_at es k)

-- whether an event that record k gives, with the number of its section, is one of this section, and misread behind the section's events
-- before it
abbrev pub misreads_at : List (List ℕ) → ℕ → ℕ → ℕ × Event → Bool
misreads_at records number k given = given.0 == number && misreads (events_in records number) (length (events_in (take k records) number)) (Some given.1)

-- whether record k, counted from 0, writes an address in decimal that it asserts something of, and is misread in the section with this number
unfoldable pub is_misread_record : List (List ℕ) → ℕ → ℕ → Bool
is_misread_record records number k = asserts_decimal (slice_index_or records k []) && list_any (misreads_at records number k) (numbered (current_at records k) (reading_at records k))

-- whether one of the first n records is
unfoldable pub some_misread : List (List ℕ) → ℕ → ℕ → Bool
some_misread records number zero = false
some_misread records number (suc k) = some_misread records number k || is_misread_record records number k

-- whether an assertion of some section is misread
unfoldable pub has_misread : List (List ℕ) → Bool
has_misread records = list_any (λ number. some_misread records number (length records)) (numbers_of records)

-- ---- by where the events stand. No public clause cites this.

-- whether the record that stands there asserts something of an address that it writes in decimal
abbrev pub is_decimal_there : Option Located → Bool
is_decimal_there None = false
is_decimal_there (Some l) = asserts_decimal l.text.now

-- whether one of the events at the places 1 to n is misread, and its record writes an address in decimal
unfoldable pub misread_among : List Event → List Located → ℕ → Bool
misread_among es located zero = false
misread_among es located (suc k) = misread_among es located k || (is_decimal_there (slice_get located k) && is_misread es (suc k))
