-- The state of a cache line from its bytes: a line is clean or pending by what its bytes are, so that no
-- record of lines need be kept. Defined here; no definition cites this.
use Rattle.std.specs.Prelude.{◌≡◌, ℕ, ◌+◌, ◌%◌, ◌<◌, ◌≤◌, ◌↔◌, Bool, true, false, ◌&&◌, ◌==◌, nat_lt, List, Some}
use Rattle.pmf_event.specs.{declared.event.Event.{Event}, declared.event.Event.TheVariants.{Store}, declared.span.TheConstants.{LINE_SIZE}, Span.{Extent}, Line.{line_of_byte}, Store.{event_at, stores, last_store}, Interval.{first_write_back, closing_fence}, FlushWarnings.{is_clean, is_pending}}

-- whether byte b is undurable at p: it was stored to, and no fence follows a write-back of its line that
-- follows its last store
unfoldable pub is_undurable : List Event → ℕ → ℕ → Bool
is_undurable es p b = nat_lt 0 (last_store es p b) && closing_fence (stores b) (line_of_byte b) es p == 0

-- whether byte b is unwritten at p: it was stored to, and no write-back of its line follows its last store
unfoldable pub is_unwritten : List Event → ℕ → ℕ → Bool
is_unwritten es p b = nat_lt 0 (last_store es p b) && first_write_back (stores b) (line_of_byte b) es p == 0

-- each store among the first p events has a size above 0
abbrev pub HasBytes : List Event → ℕ → Type 0
HasBytes es p = (k : ℕ) (s : Extent) → k ≤ p → event_at es k ≡ Some (Store s) → 0 < s.size

-- some byte of the line passes the test
abbrev pub SomeByteOf : ℕ → (ℕ → Bool) → Type 0
SomeByteOf line test = (b : ℕ) × (line ≤ b) × (b < line + LINE_SIZE) × (test b ≡ true)

-- no byte of the line passes the test
abbrev pub NoByteOf : ℕ → (ℕ → Bool) → Type 0
NoByteOf line test = (b : ℕ) → line ≤ b → b < line + LINE_SIZE → test b ≡ false

-- where each store has a size above 0, a line is clean exactly where no byte of it is undurable, and
-- pending exactly where some byte of it is undurable and none is unwritten
abbrev pub LinesFollowFromTheirBytes : Type 0
LinesFollowFromTheirBytes = (es : List Event) (p line : ℕ) → line % LINE_SIZE ≡ 0 → HasBytes es p →
    ((is_clean es p line ≡ true) ↔ NoByteOf line (is_undurable es p))
    × ((is_pending es p line ≡ true) ↔ (SomeByteOf line (is_undurable es p) × NoByteOf line (is_unwritten es p)))
