-- Which element of a list a number is handed to, by the keys between the elements.
use Rattle.std.specs.Prelude.{◌≡◌, ◌⊎◌, false, min, ◌==◌, ℕ, suc, ◌+◌, ◌<◌, ◌≤◌, Bool, true, ◌&&◌, nat_le, nat_lt, ◌-◌, ◌/◌, List, [], ◌∷◌, insert, length, get_or, Option, None, Some, if◌then◌else◌}

-- how many keys from the front are at most the number
unfoldable pub rank : List ℕ → ℕ → ℕ
rank [] b = 0
rank (key ∷ keys) b = if nat_le key b then suc (rank keys b) else 0

-- the element at the number's rank, or the default where there is none
unfoldable pub at_rank : {X : Type 0} → List ℕ → List X → X → ℕ → X
at_rank keys items d b = get_or items (rank keys b) d

-- each key is below those that follow
pub record Rises (keys : List ℕ) : Type 0 where
  pub order : (i j : ℕ) → i < j → j < length keys → get_or keys i 0 < get_or keys j 0

-- the number is one of the keys
pub record HasKey (keys : List ℕ) (b : ℕ) : Type 0 where
  pub place : ℕ
  pub within : place < length keys
  pub is : get_or keys place 0 ≡ b

-- the keys up to the number are below it
pub record IsFresh (keys : List ℕ) (b : ℕ) : Type 0 where
  pub below : (k : ℕ) → k < rank keys b → get_or keys k 0 < b

-- the number is above all keys
pub record IsBeyond (keys : List ℕ) (b : ℕ) : Type 0 where
  pub above : (k : ℕ) → k < length keys → get_or keys k 0 < b

-- whether the number is not below the bound, if there is one
abbrev pub reaches : Option ℕ → ℕ → Bool
reaches None b = true
reaches (Some first) b = nat_le first b

-- whether the number is below the bound, if there is one
abbrev pub falls_short : Option ℕ → ℕ → Bool
falls_short None b = true
falls_short (Some end) b = nat_lt b end

-- whether the number lies from the one bound up to the other
unfoldable pub is_within : Option ℕ → Option ℕ → ℕ → Bool
is_within from end b = reaches from b && falls_short end b

-- each number has the state that it had, whatever the default
pub record SameStates {S : Type 0} (old new : S → ℕ → S) : Type 0 where
  pub states : (d : S) (b : ℕ) → new d b ≡ old d b

-- the states between the bounds are changed, and the others are as they were
pub record ChangesWithin {S : Type 0} (from end : Option ℕ) (change : S → S) (old new : S → ℕ → S) : Type 0 where
  pub states : (d : S) (b : ℕ) → new d b ≡ (if is_within from end b then change (old d b) else old d b)

-- the numbers below the middle have their states in the one, and the others in the other
pub record Splits {S : Type 0} (middle : ℕ) (old low high : S → ℕ → S) : Type 0 where
  pub below : (d : S) (b : ℕ) → b < middle → low d b ≡ old d b
  pub above : (d : S) (b : ℕ) → middle ≤ b → high d b ≡ old d b

-- the first of the elements that lie from the bound on
abbrev pub low_rank : List ℕ → Option ℕ → ℕ
low_rank keys None = 0
low_rank keys (Some first) = rank keys first

-- the first of the elements that lie beyond the bound
abbrev pub high_rank : List ℕ → Option ℕ → ℕ
high_rank keys None = length keys + 1
high_rank keys (Some end) = rank keys end

-- the elements from low up to high are changed
pub record ChangesItems {S : Type 0} (low high : ℕ) (change : S → S) (old new : List S) : Type 0 where
  pub len : length new ≡ length old
  pub items : (k : ℕ) (d : S) → k < length old → get_or new k d ≡ (if nat_le low k && nat_lt k high then change (get_or old k d) else get_or old k d)

-- the bound as it is handed down: nothing where a part begins there
abbrev pub IsInner : List ℕ → Option ℕ → Option ℕ → Type 0
IsInner keys None inner = inner ≡ None
IsInner keys (Some b) inner = ((inner ≡ None) × HasKey keys b) ⊎ ((inner ≡ Some b) × IsFresh keys b)

-- a bound at one part, and none elsewhere
unfoldable pub bound_at : ℕ → ℕ → Option ℕ → Option ℕ
bound_at here index bound = if index == here then bound else None

-- the change alters no state of the numbers from first up to the end but those from low up to high
pub record AltersWithin {S : Type 0} (first end low high : ℕ) (change : S → S) (state : S → ℕ → S) : Type 0 where
  pub from : low < high → first ≤ low
  pub upto : low < high → high ≤ end
  pub below : (d : S) (b : ℕ) → first ≤ b → b < end → b < low → change (state d b) ≡ state d b
  pub above : (d : S) (b : ℕ) → first ≤ b → b < end → high ≤ b → change (state d b) ≡ state d b

-- the run from start to stop is left as it is, or what is altered reaches over it
abbrev pub Sees : {S : Type 0} → ℕ → ℕ → S → (S → S) → ℕ → ℕ → ℕ → ℕ → Type 0
Sees start stop state change first end next last =
    ((change state ≡ state) × (next ≡ first) × (last ≡ end)) ⊎ ((next ≡ min first start) × (last ≡ stop))

-- a range that ends there ends at the latest where the element of an index does
abbrev pub LiesBefore : List ℕ → ℕ → ℕ → Type 0
LiesBefore keys index end = index < length keys → end ≤ get_or keys index 0

-- where the run of an index ends, or the end of the range, whichever comes first
abbrev pub IsStop : List ℕ → ℕ → ℕ → ℕ → Type 0
IsStop keys index end stop =
    ((index < length keys) × (stop < end) × (stop ≡ get_or keys index 0)) ⊎ ((stop ≡ end) × LiesBefore keys index end)

-- the list with two elements put in at an index
abbrev pub with_two : {X : Type 0} → List X → ℕ → X → X → List X
with_two xs i one two = insert (insert xs i one) (i + 1) two

-- the summary covers each state
abbrev pub CoversAll : {S M : Type 0} → (M → S → Bool) → M → (S → ℕ → S) → Type 0
CoversAll covers summary state = (d : _) (b : ℕ) → covers summary (state d b) ≡ true

-- no state is unsettled
abbrev pub AllSettled : {S : Type 0} → (S → Bool) → (S → ℕ → S) → Type 0
AllSettled unsettled state = (d : _) (b : ℕ) → unsettled (state d b) ≡ false

-- each number from this one on has the state
abbrev pub IsTail : {S : Type 0} → (S → ℕ → S) → ℕ → S → Type 0
IsTail state place s = (d : _) (b : ℕ) → place ≤ b → state d b ≡ s

-- which of the keys a leaf or a level is parted at before more is put in at a place: the last, if the place lies from there on, else the middle one
unfoldable pub parting : List ℕ → ℕ → ℕ
parting keys place = if nat_le (get_or keys (length keys - 1) 0) place then length keys - 1 else length keys / 2
