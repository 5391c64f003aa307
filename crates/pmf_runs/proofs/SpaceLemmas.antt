-- Space for more on the way to a number, by what is done to a full part.
use Rattle.std.proofs.{Common.{◌≡◌, ℕ, ◌+◌, ◌/◌, ◌<◌, ◌≤◌, Bool, false, List, length, get_or, set, take, drop, subst, arith, inl, inr, insert, Vec, Global, vec_len, length-set, length-take-le, length-drop, get_or-set_same}, lemmas.Bool.Decides.{nat_tests}, lemmas.Bool.{cases_lt}, lemmas.List.{get_or_read, get_or-map}, lemmas.List.Edits.{length-insert, get_or-insert_below, get_or-insert_at, get_or-insert_above}}
use Rattle.pmf_runs.{specs.declared.leaf.Leaf.{Leaf}, specs.declared.level.Level.{Level}, specs.Ranks.{rank, HasKey, parting}, specs.Leaves.{leaf_middle, leaf_size}, specs.Levels.{level_middle, level_size}, specs.Spaces.{IsHalved, HasSpace, MakesSpace, size_at}, proofs.RankLemmas.{rank-here, rank-unique}, proofs.LeafLemmas.{middle-is}, proofs.LevelLemmas.{level-bound, level-middle-is}, proofs.JoinedLevelLemmas.{has-fresh}}

-- the keys are parted at one of them
parts-few : (old low high : Vec ℕ Global) (m place : ℕ) → m ≡ parting old.items place → m < length old.items → low.items ≡ take m old.items → high.items ≡ drop (m + 1) old.items → IsHalved (get_or old.items m 0) place (vec_len old) (vec_len low) (vec_len high)
unfolding parting
parts-few old low high m place at within is_low is_high = grind (arith, nat_tests, length-take-le, length-drop, old.ok.0, low.ok.0, high.ok.0)

pub leaf-halved : {S : Type 0} (old : Leaf S) (low high : Vec ℕ Global) (m place : ℕ) → m ≡ parting old.keys.items place → m < length old.keys.items → low.items ≡ take m old.keys.items → high.items ≡ drop (m + 1) old.keys.items →
    IsHalved (leaf_middle old place) place (leaf_size old) (vec_len low) (vec_len high)
leaf-halved old low high m place at within is_low is_high = subst (λ k. IsHalved k place (vec_len old.keys) (vec_len low) (vec_len high)) (middle-is old m place at) (parts-few old.keys low high m place at within is_low is_high)

pub level-halved : {P : Type 0} (old : Level P) (low high : Vec ℕ Global) (m place : ℕ) → m ≡ parting old.keys.items place → m < length old.keys.items → low.items ≡ take m old.keys.items → high.items ≡ drop (m + 1) old.keys.items →
    IsHalved (level_middle old place) place (level_size old) (vec_len low) (vec_len high)
level-halved old low high m place at within is_low is_high = subst (λ k. IsHalved k place (vec_len old.keys) (vec_len low) (vec_len high)) (level-middle-is old m place at) (parts-few old.keys low high m place at within is_low is_high)

-- the place's rank after a key is put in at it: that of the lower or of the higher half
rank-low : (keys : List ℕ) (p place i : ℕ) → i ≡ rank keys place → place < p → rank (insert keys i p) place ≡ i
rank-low keys p place i at below = let is = rank-here keys place i at in rank-unique (insert keys i p) place i (grind (arith, length-insert, get_or-insert_below, get_or-insert_at))

rank-high : (keys : List ℕ) (p place i : ℕ) → i ≡ rank keys place → p ≤ place → rank (insert keys i p) place ≡ i + 1
rank-high keys p place i at from = let is = rank-here keys place i at in rank-unique (insert keys i p) place (i + 1) (grind (arith, length-insert, get_or-insert_below, get_or-insert_at, get_or-insert_above))

pub size-is : {P : Type 0} (size : P → ℕ) (level : Level P) (part : P) (place i : ℕ) → i ≡ rank level.keys.items place → part ≡ get_or level.parts.items i part → size_at size level place ≡ size part
unfolding size_at
size-is size level part place i at read = grind (arith, level-bound, get_or-map)

pub size-halved : {P : Type 0} (size : P → ℕ) (old new : Level P) (part low high : P) (place i m : ℕ) → i ≡ rank old.keys.items place → part ≡ get_or old.parts.items i part → IsHalved m place (size part) (size low) (size high) →
    new.keys.items ≡ insert old.keys.items i m → new.parts.items ≡ insert (set old.parts.items i low) (i + 1) high → size_at size new place ≤ size_at size old place / 2
size-halved size old new part low high place i m at read halved keys parts = let is = size-is size old part place i at read in elim (cases_lt place m) [
  | inl below ↦ let now = size-is size new low place i in grind (arith, level-bound, rank-low, length-set, get_or-set_same, get_or-insert_below, now)
  | inr above ↦ let now = size-is size new high place (i + 1) in grind (arith, level-bound, rank-high, length-set, get_or-insert_at, now)
]

module _ {P : Type 0} (full : P → Bool) (middle : P → ℕ → ℕ) where
  pub space-kept : (level : Level P) (part : P) (place i : ℕ) → i ≡ rank level.keys.items place → part ≡ get_or level.parts.items i part → full part ≡ false → HasSpace full middle place level
  space-kept level part place i at read room = grind (arith, level-bound, get_or_read)

  -- the number that it is to be split at is another part's, or a part begins there
  pub space-other : (level : Level P) (part : P) (place i m : ℕ) → i ≡ rank level.keys.items place → part ≡ get_or level.parts.items i part → m ≡ middle part place → (rank level.keys.items m ≡ i → ⊥) → HasSpace full middle place level
  space-other level part place i m at read is other = grind (arith, level-bound, get_or_read)

  pub space-key : (level : Level P) (part : P) (place i m : ℕ) → i ≡ rank level.keys.items place → part ≡ get_or level.parts.items i part → m ≡ middle part place → HasKey level.keys.items m → HasSpace full middle place level
  space-key level part place i m at read is has = let beside = has-fresh level.keys.items m level.ordered has in grind (arith, level-bound, get_or_read, beside)

  pub space-made : (makes : ℕ → P → P → Type 0) (split new : Level P) (part next : P) (place i : ℕ) → HasSpace full middle place split → i ≡ rank split.keys.items place → part ≡ get_or split.parts.items i part → makes place part next →
      new.keys ≡ split.keys → new.parts.items ≡ set split.parts.items i next → MakesSpace full middle makes place new
  space-made makes split new part next place i has at read made keys parts = record { before = split; had = has; keys = keys; part = λ d. grind (arith, level-bound, get_or_read, get_or-set_same) }
