-- The pairs that an order assertion speaks of, by what the shadow keeps of their bytes.
use Rattle.std.specs.Prelude.{◌≡◌, ℕ, ◌+◌, ◌<◌, ◌≤◌, Bool, true, false, ◌==◌, List, Option, None, Some, if◌then◌else◌}
use Rattle.pmf_event.specs.{declared.event.Event.{Event}, declared.profile.Profile.{Profile}, Line.{line_of_byte}, Order.{share_line, is_unordered, is_certified}}
use Rattle.pmf_shadow.specs.{declared.byte.Stored.{Stored}, States.{checked_store, comes_after, stored_by}}
use Rattle.pmf_shadow.specs.{declared.front.ByteMap.{ByteMap}, Bytes.{state_at}}

-- the pairs that are asked for: those that are certified, or all that are unordered
abbrev pub pairs_of : Bool → Profile → List Event → ℕ → ℕ → ℕ → Bool
pairs_of true profile es p = is_certified profile es p
pairs_of false profile es p = is_unordered profile es p

-- the last store of each byte that is checked
unfoldable pub kept : ByteMap → ℕ → Option Stored
kept runs b = checked_store (state_at runs b)

-- whether both bytes are checked, and their stores pass
abbrev pub both_hold : (Stored → Stored → Bool) → Option Stored → Option Stored → Bool
both_hold test (Some x) (Some y) = test x y
both_hold test _ _ = false

-- whether the second store comes in no epoch after that of the first one's write-back
abbrev pub by_epoch : Stored → Stored → Bool
by_epoch x y = comes_after x.written_back y

-- whether the second store comes before the first, or is the same where ties count
abbrev pub by_place : Bool → Stored → Stored → Bool
by_place ties x y = stored_by ties x.last y

-- whether the pair is unordered by its epochs
unfoldable pub by_epochs : (ℕ → Option Stored) → ℕ → ℕ → Bool
by_epochs kept x y = both_hold by_epoch (kept x) (kept y)

-- whether the pair is unordered, on one line by the order of the stores, and else by its epochs
unfoldable pub by_lines : Bool → (ℕ → Option Stored) → ℕ → ℕ → Bool
by_lines ties kept x y = if share_line x y then both_hold (by_place ties) (kept x) (kept y) else both_hold by_epoch (kept x) (kept y)

-- the one test on the line, and the other off it
unfoldable pub by_line : ℕ → (ℕ → Bool) → (ℕ → Bool) → ℕ → Bool
by_line line on off b = if line_of_byte b == line then on b else off b

-- a value on the line alone
unfoldable pub on_line : ℕ → (ℕ → Option ℕ) → ℕ → Option ℕ
on_line line value b = if line_of_byte b == line then value b else None

-- a value off the line alone
unfoldable pub off_line : ℕ → (ℕ → Option ℕ) → ℕ → Option ℕ
off_line line value b = if line_of_byte b == line then None else value b

-- one of the n numbers from b on with this value
pub record HasValue (value : ℕ → Option ℕ) (b n v : ℕ) : Type 0 where
  pub place : ℕ
  pub from : b ≤ place
  pub within : place < b + n
  pub is : value place ≡ Some v

-- the least value that one of the n numbers from b on has, if one has
pub record IsLeastValue (value : ℕ → Option ℕ) (b n : ℕ) (least : Option ℕ) : Type 0 where
  pub none : least ≡ None → (k : ℕ) → b ≤ k → k < b + n → value k ≡ None
  pub has : (v : ℕ) → least ≡ Some v → HasValue value b n v
  pub bound : (v : ℕ) → least ≡ Some v → (k u : ℕ) → b ≤ k → k < b + n → value k ≡ Some u → v ≤ u
