-- The states of bytes: of a line in front by its words, and of all others by the map of runs behind.
use Rattle.std.specs.Prelude.{◌≡◌, ℕ, ◌+◌, ◌*◌, ◌/◌, ◌%◌, ◌<◌, ◌≤◌, Bool, ◌&&◌, nat_eq, nat_le, nat_lt, get_or, Option, None, Some, is_some, true, if◌then◌else◌}
use Rattle.std.specs.HashMap.{get}
use Rattle.pmf_shadow.specs.{declared.byte.ByteState.{ByteState}, declared.front.ByteMap.{ByteMap}, declared.line.Line.{Line}}
use Rattle.pmf_runs.specs.Runs as behind

-- the state of a byte that may be on a line in front: that of its word there, or else what is behind
unfoldable pub state_on : Option Line → (ℕ → ByteState) → ℕ → ByteState
state_on None behind b = behind b
state_on (Some line) behind b = get_or line.words (b % 64 / 8) (behind b)

-- the words of a line have the states of its bytes
pub record IsLineOf (states : ℕ → ByteState) (number : ℕ) (line : Line) : Type 0 where
  pub is : (b : ℕ) → b / 64 ≡ number → state_on (Some line) states b ≡ states b

-- the line in front on which the byte is, if it is on one
abbrev pub line_at : ByteMap → ℕ → Option Line
line_at bytes b = get nat_eq bytes.front (b / 64)

-- the state of a byte
unfoldable pub state_at : ByteMap → ℕ → ByteState
state_at bytes b = state_on (line_at bytes b) (behind.state_at bytes.behind) b

-- the lines from the first to the last are in front
pub record AreInFront (bytes : ByteMap) (first last : ℕ) : Type 0 where
  pub each : (line : ℕ) → first ≤ line → line ≤ last → is_some (get nat_eq bytes.front line) ≡ true

-- no line from the first to the last is in front
pub record AreBehind (bytes : ByteMap) (first last : ℕ) : Type 0 where
  pub each : (line : ℕ) → first ≤ line → line ≤ last → get nat_eq bytes.front line ≡ None

-- each byte has the state that it had
pub record KeepsStates (old new : ByteMap) : Type 0 where
  pub states : (b : ℕ) → state_at new b ≡ state_at old b

-- whether the byte lies from first up to the end
unfoldable pub is_between : ℕ → ℕ → ℕ → Bool
is_between first end b = nat_le first b && nat_lt b end

-- the states of the bytes from first up to the end are changed, and the others are as they were
pub record ChangesBetween (first end : ℕ) (change : ByteState → ByteState) (old new : ByteMap) : Type 0 where
  pub states : (b : ℕ) → state_at new b ≡ (if is_between first end b then change (state_at old b) else state_at old b)

-- all states of the lines in front from the first one up to the end are changed, and no other state is
pub record ChangesFront (first end : ℕ) (change : ByteState → ByteState) (old new : ByteMap) : Type 0 where
  pub front : (b : ℕ) → is_some (line_at old b) ≡ true → state_at new b ≡ (if is_between first end (b / 64) then change (state_at old b) else state_at old b)
  pub behind : (b : ℕ) → line_at old b ≡ None → state_at new b ≡ state_at old b

-- the bytes from first up to the end are all on one line in front, or none of them is on a line in front
pub record AreAlike (bytes : ByteMap) (first end : ℕ) : Type 0 where
  pub one : is_some (line_at bytes first) ≡ true → end ≤ 64 * (first / 64) + 64
  pub none : line_at bytes first ≡ None → (b : ℕ) → first ≤ b → b < end → line_at bytes b ≡ None

-- whether the state of a byte passes
unfoldable pub passing : (ByteState → Bool) → ByteMap → ℕ → Bool
passing passes bytes b = passes (state_at bytes b)

-- the key that the state of a byte has, if it has one
unfoldable pub keyed : (ByteState → Option ℕ) → ByteMap → ℕ → Option ℕ
keyed key bytes b = key (state_at bytes b)
