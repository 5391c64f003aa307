-- Spans of bytes: the first address and how many bytes. The limits are the project's own.
-- (E and T of the examples: docs/DEFINITIONS.md)
use Rattle.std.specs.Prelude.{ℕ, ◌≡◌, length, get_or, ◌+◌, ◌<◌, ◌≤◌, Bool, nat_lt, nat_le, ◌&&◌, ◌==◌, List, codes, Result, Ok, Err, if◌then◌else◌}
use Rattle.pmf_event.specs.declared.span.{TheConstants.{SPAN_LIMIT, ADDRESS_LIMIT}, SpanFault.{SpanFault}, SpanFault.TheVariants.{ZeroSize, TooLarge, PastEnd}}

-- a span as a value: the address of its first byte, and how many bytes it has
-- on E: that of event 1 is from 0x1000 on, 8 bytes
pub record Extent : Type 0 where
  pub first : ℕ
  pub size : ℕ

-- the limits that the two numbers of a span keep
pub record IsValidExtent (first size : ℕ) : Type 0 where
  pub not_empty : 0 < size
  pub small : size ≤ SPAN_LIMIT
  pub ends : first + size ≤ ADDRESS_LIMIT

-- the bytes of a number that takes so many
pub record IsNumeral (count : ℕ) (bytes : List ℕ) : Type 0 where
  pub length : length bytes ≡ count
  pub small : (i : ℕ) → get_or bytes i 0 < 256

-- the span of these two numbers, or the first fault that applies
abbrev pub extent_of : ℕ → ℕ → Result Extent SpanFault
extent_of first size =
    if size == 0 then Err ZeroSize
    else if nat_lt SPAN_LIMIT size then Err TooLarge
    else if nat_lt ADDRESS_LIMIT (first + size) then Err PastEnd
    else Ok (record { first = first; size = size })

-- the words of a fault
abbrev pub words_of_fault : SpanFault → List ℕ
words_of_fault ZeroSize = codes "size is zero"
words_of_fault TooLarge = codes "size is too large"
words_of_fault PastEnd = codes "range ends past 2^63"

-- whether the byte is one of the span's
-- on E: the span of event 1 covers 0x1007, and not 0x1008
abbrev pub covers_byte : Extent → ℕ → Bool
covers_byte s b = nat_le s.first b && nat_lt b (s.first + s.size)
