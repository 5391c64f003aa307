-- Numbers of cache lines and of bytes.
use Rattle.std.specs.Prelude.{◌≡◌, ℕ, ◌%◌, ◌<◌, ◌+◌, ◌*◌, ◌/◌, ◌≤◌, Bool, true}
use Rattle.pmf_event.specs.declared.span.TheConstants.{ADDRESS_LIMIT}

-- the bytes of each of the lines are below the limit
pub record AreLow (lines : ℕ → Bool) : Type 0 where
  pub low : (line : ℕ) → lines line ≡ true → 64 * line + 64 ≤ ADDRESS_LIMIT

-- a word begins at both bounds of a range
pub record AreWords (first end : ℕ) : Type 0 where
  pub some : first < end
  pub begins : first % 8 ≡ 0
  pub ends : end % 8 ≡ 0

-- the next number is that after the byte's line, or word, of so many bytes, or the end, if that comes before
pub record IsStep (byte end size next : ℕ) : Type 0 where
  pub up : byte < next
  pub upto : next ≤ end
  pub within : next ≤ size * (byte / size) + size

-- the numbers from first up to the end have this state
pub record HaveState {S : Type 0} (states : ℕ → S) (first end : ℕ) (state : S) : Type 0 where
  pub each : (b : ℕ) → first ≤ b → b < end → states b ≡ state
