-- How many of all cache lines below the address limit have a byte whose state passes, as totals that are kept.
-- No public clause cites this.
use Rattle.std.specs.Prelude.{◌≡◌, ℕ, ◌+◌, ◌/◌, ◌<◌, Bool, false, Option, Some}
use Rattle.pmf_event.specs.{declared.span.TheConstants.{ADDRESS_LIMIT, LINE_SIZE}, Ranges.{count_from}}
use Rattle.pmf_runs.specs.Lines.{line_has}
use Rattle.pmf_shadow.specs.{declared.byte.ByteState.{ByteState}, declared.front.ByteMap.{ByteMap}, declared.totals.Totals.{Totals}, States.{stored_of, holds_of, late_for, lacks_write_back, written_back_from}, Stretches.{AllHave}, Bytes.{passing, ChangesBetween}}

-- whether a byte is not durable after so many fences
abbrev pub undurable_after : ℕ → ByteState → Bool
undurable_after fences s = holds_of (late_for fences) (stored_of s)

-- whether it was stored to, and not written back since
abbrev pub unwritten : ByteState → Bool
unwritten s = holds_of lacks_write_back (stored_of s)

-- whether its first write-back lies behind so many fences
abbrev pub written_back_past : ℕ → ByteState → Bool
written_back_past fences s = holds_of (written_back_from (fences + 1)) (stored_of s)

-- how many of so many lines from the first of all have a byte that passes
abbrev pub lines_upto : ℕ → (ByteState → Bool) → ByteMap → ℕ
lines_upto lines passes bytes = count_from (line_has (passing passes bytes)) 0 lines

-- how many of all lines have one
abbrev pub lines_with : (ByteState → Bool) → ByteMap → ℕ
lines_with = lines_upto (ADDRESS_LIMIT / LINE_SIZE)

-- the totals of these bytes after so many fences, none of which was written back later; each line of the range that
-- they name is not durable
pub record AreTotals (bytes : ByteMap) (fences : ℕ) (totals : Totals) : Type 0 where
  pub undurable : totals.undurable ≡ lines_with (undurable_after fences) bytes
  pub unwritten : totals.unwritten ≡ lines_with unwritten bytes
  pub dense : AllHave (passing (undurable_after fences) bytes) totals.from totals.upto
  pub past : (b : ℕ) → b < ADDRESS_LIMIT → passing (written_back_past fences) bytes b ≡ false

-- where there are totals, they are those of these bytes after so many fences
pub record AreCounted (bytes : ByteMap) (fences : ℕ) (totals : Option Totals) : Type 0 where
  pub each : (t : Totals) → totals ≡ Some t → AreTotals bytes fences t

-- they are those of whatever bytes the change of some makes of these
abbrev pub CountsAfter : ByteMap → ℕ → ℕ → (ByteState → ByteState) → ℕ → Option Totals → Type 0
CountsAfter old first end change fences totals = (new : ByteMap) → ChangesBetween first end change old new → AreCounted new fences totals
