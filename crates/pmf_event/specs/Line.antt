-- Cache lines: 64 bytes each, named by the address of the first (Intel SDM, CLWB: a write-back acts on
-- the whole line that holds the address; the size is the project's own).
-- (E and T of the examples: docs/DEFINITIONS.md)
use Rattle.std.specs.Prelude.{ℕ, ◌+◌, ◌-◌, ◌%◌, Bool, nat_lt, ◌&&◌, ◌==◌}
use Rattle.pmf_event.specs.{declared.span.TheConstants.{LINE_SIZE}, Span.{Extent}}

-- the line of a byte
-- example: that of 0x1008 is 0x1000
abbrev pub line_of_byte : ℕ → ℕ
line_of_byte b = b - b % LINE_SIZE

-- of two spans that are not empty, whether they have a byte in common
-- example: 8 bytes from 0x1000 on and 8 from 0x1004 on have; 8 from 0x1008 on have none with the first
abbrev pub meets_span : Extent → Extent → Bool
meets_span s t = nat_lt s.first (t.first + t.size) && nat_lt t.first (s.first + s.size)

-- of a span that is not empty, whether the address is a line's and the span has a byte of that line
-- on E: the span of event 3 meets line 0x1000 alone
abbrev pub meets_line : Extent → ℕ → Bool
meets_line s l = l % LINE_SIZE == 0 && meets_span s (record { first = l; size = LINE_SIZE })
