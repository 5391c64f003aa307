-- Maps in which neighbouring runs differ.
use Rattle.std.specs.Prelude.{◌≡◌, ◌⊎◌, ◌<◌, ◌≤◌, ◌+◌, ℕ, List, length, get_or, Option, None, Some, IfSome}
use Rattle.pmf_runs.specs.{declared.leaf.Leaf.{Leaf}, declared.level.Level.{Level}, Leaves.{leaf_begins}, Ranks.{rank, HasKey, IsFresh, ChangesWithin, Splits, bound_at, low_rank, high_rank}}

-- no two neighbouring states of the leaf are equal
pub record Joined {S : Type 0} (leaf : Leaf S) : Type 0 where
  pub differ : (k : ℕ) (d : S) → k + 1 < length leaf.states.items → get_or leaf.states.items k d ≡ get_or leaf.states.items (k + 1) d → ⊥

-- the parts of a level are joined
pub record AllJoined {P : Type 0} (joined : P → Type 0) (level : Level P) : Type 0 where
  pub each : (k : ℕ) (part : P) → k < length level.parts.items → joined (get_or level.parts.items k part)

-- the states on the two sides of a key differ, but where a run was cut at one of the two numbers
pub record JoinedBut {S : Type 0} (leaf : Leaf S) (one other : Option ℕ) : Type 0 where
  pub only : (k : ℕ) (d : S) → k < length leaf.keys.items → get_or leaf.states.items k d ≡ get_or leaf.states.items (k + 1) d →
      (one ≡ Some (get_or leaf.keys.items k 0)) ⊎ (other ≡ Some (get_or leaf.keys.items k 0))

-- the same but at the keys from the one before low up to high
pub record JoinedBeside {S : Type 0} (leaf : Leaf S) (low high : ℕ) : Type 0 where
  pub differ : (k : ℕ) (d : S) → k < length leaf.keys.items → (k + 1 < low) ⊎ (high ≤ k) → get_or leaf.states.items k d ≡ get_or leaf.states.items (k + 1) d → ⊥

-- the number as it is handed to the part at an index: nothing where it is another's, or where a part begins there
abbrev pub IsHanded : List ℕ → ℕ → Option ℕ → Option ℕ → Type 0
IsHanded keys index None inner = inner ≡ None
IsHanded keys index (Some b) inner = ((rank keys b ≡ index) × IsFresh keys b × (inner ≡ Some b)) ⊎ ((inner ≡ None) × (rank keys b ≡ index → HasKey keys b))

-- the parts of a level are joined, but where a run was cut at the numbers that they are handed
pub record PartsJoined {P : Type 0} (joined : P → Option ℕ → Option ℕ → Type 0) (level : Level P) (one other : Option ℕ) : Type 0 where
  pub parts : (k : ℕ) (part : P) (first second : Option ℕ) → k < length level.parts.items → IsHanded level.keys.items k one first → IsHanded level.keys.items k other second →
      joined (get_or level.parts.items k part) first second

-- the first bound is not above the second, if there are two
abbrev pub InOrder : Option ℕ → Option ℕ → Type 0
InOrder from end = IfSome from (λ a. IfSome end (λ b. a ≤ b))

-- the parts from low up to i are joined where they were joined but at their bounds, and the others are as they were
pub record JoinsParts {P : Type 0} (joined : P → Option ℕ → Option ℕ → Type 0) (low last : ℕ) (from end : Option ℕ) (i : ℕ) (old new : List P) : Type 0 where
  pub done : (k : ℕ) (part : P) → low ≤ k → k < i → k < length old → joined (get_or old k part) (bound_at low k from) (bound_at last k end) → joined (get_or new k part) None None
  pub rest : (k : ℕ) (part : P) → (k < low) ⊎ (i ≤ k) → get_or new k part ≡ get_or old k part

-- runs of the leaf begin at two bounds, and these are the first from the one on and the first beyond the other
pub record AreBounds {S : Type 0} (leaf : Leaf S) (from end : Option ℕ) (low high : ℕ) : Type 0 where
  pub begins : IfSome from (leaf_begins leaf)
  pub ends : IfSome end (leaf_begins leaf)
  pub order : InOrder from end
  pub first : low ≡ low_rank leaf.keys.items from
  pub beyond : high ≡ high_rank leaf.keys.items end

-- the states of the numbers from first up to the end are changed, and runs differ where they did
abbrev pub ChangesRange : {P S : Type 0} → (P → S → ℕ → S) → (P → Option ℕ → Option ℕ → Type 0) → ℕ → ℕ → (S → S) → P → P → Type 0
ChangesRange state joined first end change old new = ChangesWithin (Some first) (Some end) change (state old) (state new) × (joined old None None → joined new None None)

-- the states between two bounds are changed, and runs differ where they did but at the bounds
abbrev pub ChangesCut : {P S : Type 0} → (P → S → ℕ → S) → (P → Option ℕ → Option ℕ → Type 0) → Option ℕ → Option ℕ → (S → S) → P → P → Type 0
ChangesCut state joined from end change old new = ChangesWithin from end change (state old) (state new) × (joined old from end → joined new None None)

-- the numbers from the middle on have their states in a part of their own, and runs differ in both where they did
abbrev pub Halves : {P S : Type 0} → (P → S → ℕ → S) → (P → Option ℕ → Option ℕ → Type 0) → ℕ → P → P → P → Type 0
Halves state joined middle old new part = Splits middle (state old) (state new) (state part) × (joined old None None → joined new None None × joined part None None)
