-- Bytes that are taken out of the checks, and back in (PMTest, ASPLOS 2019: exclusion of ranges).
-- (E and T of the examples: docs/DEFINITIONS.md)
use Rattle.std.specs.Prelude.{ℕ, Bool, false, not, List}
use Rattle.pmf_event.specs.{declared.event.Event.{Event}, declared.event.Event.TheVariants.{Exclude, Include}, Span.{covers_byte}, Store.{at, last}}

-- whether the event is an exclusion that covers the byte
-- example: EXCLUDE 0x1000, 8 bytes, does, of 0x1004
unfoldable pub excludes : ℕ → Event → Bool
excludes b (Exclude s) = covers_byte s b
excludes b _ = false

-- whether the event is an exclusion or an inclusion that covers the byte
-- example: INCLUDE 0x1000, 4 bytes, is one of 0x1000, and not of 0x1004
unfoldable pub marks : ℕ → Event → Bool
marks b (Exclude s) = covers_byte s b
marks b (Include s) = covers_byte s b
marks b _ = false

-- whether byte b is excluded at p: the last exclusion or inclusion that covers it is an exclusion
-- example: after EXCLUDE 0x1000, 8 bytes, and INCLUDE 0x1000, 4 bytes, 0x1004 is, and 0x1000 is not
unfoldable pub is_excluded : List Event → ℕ → ℕ → Bool
is_excluded es p b = at (excludes b) es (last (marks b) es p)

-- whether byte b is included at p: it is not excluded
-- on E: each byte is
unfoldable pub is_included : List Event → ℕ → ℕ → Bool
is_included es p b = not (is_excluded es p b)
