-- Space for more on the way to a number: what is full there is split.
use Rattle.std.specs.Prelude.{◌≡◌, ◌<◌, ◌≤◌, ◌/◌, ℕ, Bool, true, List, get_or, map}
use Rattle.pmf_runs.specs.{declared.level.Level.{Level}, Ranks.{rank, IsFresh}}

-- of the two halves, the one in which the place lies has at most half the keys
pub record IsHalved (middle place old low high : ℕ) : Type 0 where
  pub below : place < middle → low ≤ old / 2
  pub above : middle ≤ place → high ≤ old / 2

-- the part of a level that the place is handed to
abbrev pub part_at : {P : Type 0} → Level P → ℕ → P → P
part_at level place d = get_or level.parts.items (rank level.keys.items place) d

-- the number is handed to the part that the place is handed to, and no part begins at it
abbrev pub IsBeside : List ℕ → ℕ → ℕ → Type 0
IsBeside keys place b = (rank keys b ≡ rank keys place) × IsFresh keys b

-- the part that the place is handed to is not full, unless the number that it would be split at is another part's, or begins a part
pub record HasSpace {P : Type 0} (full : P → Bool) (middle : P → ℕ → ℕ) (place : ℕ) (level : Level P) : Type 0 where
  pub space : (d : P) → full (part_at level place d) ≡ true → IsBeside level.keys.items place (middle (part_at level place d) place) → ⊥

-- a level that had space, but that the part that the place is handed to has made space itself since
pub record MakesSpace {P : Type 0} (full : P → Bool) (middle : P → ℕ → ℕ) (makes : ℕ → P → P → Type 0) (place : ℕ) (level : Level P) : Type 0 where
  pub before : Level P
  pub had : HasSpace full middle place before
  pub keys : level.keys ≡ before.keys
  pub part : (d : P) → makes place (part_at before place d) (part_at level place d)

-- the size of the part that the place is handed to
unfoldable pub size_at : {P : Type 0} → (P → ℕ) → Level P → ℕ → ℕ
size_at size level place = get_or (map size level.parts.items) (rank level.keys.items place) 0
