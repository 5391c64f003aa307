-- Laws of this crate's definitions, which its empty public functions prove.
use Rattle.std.specs.Prelude.{◌≡◌, ℕ, ◌+◌, ◌*◌, ◌<◌, ◌≤◌, ◌↔◌, true, List, All}
use Rattle.pmf_event.specs.{declared.event.Event.{Event}, Span.{Extent, covers_byte}, declared.span.TheConstants.{ADDRESS_LIMIT, LINE_SIZE}, Line.{line_of_byte, meets_line, meets_span}, FlushWarnings.{first_line, line_count}, Section.{IsValidEvent}, Store.{last_store}, Transactions.{is_scoped}}

-- a span meets exactly the lines of the bytes that it covers
abbrev pub MeetsTheLinesOfItsBytes : Type 0
MeetsTheLinesOfItsBytes = (s : Extent) (l : ℕ) → 0 < s.size →
    (meets_line s l ≡ true) ↔ ((b : ℕ) × (covers_byte s b ≡ true) × (line_of_byte b ≡ l))

-- two spans meet exactly where a byte is covered by both
abbrev pub MeetsWhereAByteIsShared : Type 0
MeetsWhereAByteIsShared = (s t : Extent) → 0 < s.size → 0 < t.size →
    (meets_span s t ≡ true) ↔ ((b : ℕ) × (covers_byte s b ≡ true) × (covers_byte t b ≡ true))

-- the lines that a span meets are those with the numbers from that of its first byte's line on, as many
-- as it has lines
abbrev pub MeetsTheLinesOfItsNumbers : Type 0
MeetsTheLinesOfItsNumbers = (s : Extent) (l : ℕ) → 0 < s.size →
    (meets_line s l ≡ true) ↔ ((n : ℕ) × (first_line s ≤ n) × (n < first_line s + line_count s) × (n * LINE_SIZE ≡ l))

-- where all spans are valid, no byte that is written, and so no byte of a scope, lies at or above the limit of addresses
abbrev pub BytesLieBelowTheLimit : Type 0
BytesLieBelowTheLimit = (es : List Event) (p b : ℕ) → All IsValidEvent es →
    (0 < last_store es p b → b < ADDRESS_LIMIT) × (is_scoped es p b ≡ true → b < ADDRESS_LIMIT)
