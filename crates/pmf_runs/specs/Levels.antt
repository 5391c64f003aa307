-- The states of the numbers in a level: each number is handed to the part at its rank.
use Rattle.std.specs.Prelude.{◌≡◌, ◌⊎◌, ◌<◌, ◌≤◌, ◌+◌, ℕ, Bool, true, ◌&&◌, nat_lt, if◌then◌else◌, Option, nat_le, List, length, map, get_or, vec_len}
use Rattle.pmf_runs.specs.{declared.level.Level.{Level}, Ranks.{rank, at_rank, HasKey, is_within, bound_at, parting}}

-- the state that each part gives a number
abbrev pub part_states : {P S : Type 0} → (P → S → ℕ → S) → List P → S → ℕ → List S
part_states state parts d b = map (λ part. state part d b) parts

-- the state that the part at its rank gives a number
unfoldable pub level_state : {P S : Type 0} → (P → S → ℕ → S) → Level P → S → ℕ → S
level_state state level d b = at_rank level.keys.items (part_states state level.parts.items d b) d b

-- the part at the number's rank begins a run there
pub record BeginsWithin {P : Type 0} (begins : P → ℕ → Type 0) (level : Level P) (b : ℕ) : Type 0 where
  pub within : (d : P) → begins (get_or level.parts.items (rank level.keys.items b) d) b

-- a part begins at the number, or one begins a run there
unfoldable pub level_begins : {P : Type 0} → (P → ℕ → Type 0) → Level P → ℕ → Type 0
level_begins begins level b = HasKey level.keys.items b ⊎ BeginsWithin begins level b

-- how many keys the level has
abbrev pub level_size : {P : Type 0} → Level P → ℕ
level_size level = vec_len level.keys

-- whether the level is to be parted
abbrev pub level_full : {P : Type 0} → Level P → Bool
level_full level = nat_le 62 (vec_len level.keys)

-- the key that it is parted at before more is put in at a place
unfoldable pub level_middle : {P : Type 0} → Level P → ℕ → ℕ
level_middle level place = get_or level.keys.items (parting level.keys.items place) 0

-- the part at an index is full, and this is the number at which it is parted
pub record IsFullAt {P : Type 0} (full : P → Bool) (middle : P → ℕ) (level : Level P) (index place : ℕ) : Type 0 where
  pub within : index < vec_len level.parts
  pub is_full : (d : P) → full (get_or level.parts.items index d) ≡ true
  pub is_middle : (d : P) → middle (get_or level.parts.items index d) ≡ place

-- the parts from low up to i are changed, the first from its bound on and the last up to its bound
pub record Rewrites {P S : Type 0} (state : P → S → ℕ → S) (change : S → S) (low last : ℕ) (from end : Option ℕ) (i : ℕ) (old new : List P) : Type 0 where
  pub len : length new ≡ length old
  pub states : (d : S) (b k : ℕ) → k < length old → get_or (part_states state new d b) k d ≡
      (if nat_le low k && nat_lt k i then (if is_within (bound_at low k from) (bound_at last k end) b then change (get_or (part_states state old d b) k d) else get_or (part_states state old d b) k d) else get_or (part_states state old d b) k d)

-- the part at an index begins a run at the number
pub record BeginsAt {P : Type 0} (begins : P → ℕ → Type 0) (level : Level P) (index b : ℕ) : Type 0 where
  pub at : (d : P) → begins (get_or level.parts.items index d) b

-- from the key on the part after it gives each number the state that the part before it gives it
pub record GoesOn {P S : Type 0} (state : P → S → ℕ → S) (level : Level P) (key : ℕ) : Type 0 where
  pub same : (p : P) (d : S) (b : ℕ) → get_or level.keys.items key 0 ≤ b → state (get_or level.parts.items key p) d b ≡ state (get_or level.parts.items (key + 1) p) d b
