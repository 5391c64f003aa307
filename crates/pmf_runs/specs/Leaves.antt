-- The states of the numbers in a leaf.
use Rattle.std.specs.Prelude.{ℕ, Bool, nat_le, get_or, vec_len}
use Rattle.pmf_runs.specs.{declared.leaf.Leaf.{Leaf}, Ranks.{at_rank, HasKey, parting}}

-- the state of a number is the one at its rank
unfoldable pub leaf_state : {S : Type 0} → Leaf S → S → ℕ → S
leaf_state leaf d b = at_rank leaf.keys.items leaf.states.items d b

-- a run of the leaf begins at the number
unfoldable pub leaf_begins : {S : Type 0} → Leaf S → ℕ → Type 0
leaf_begins leaf b = HasKey leaf.keys.items b

-- how many keys the leaf has
abbrev pub leaf_size : {S : Type 0} → Leaf S → ℕ
leaf_size leaf = vec_len leaf.keys

-- whether the leaf is to be parted
abbrev pub leaf_full : {S : Type 0} → Leaf S → Bool
leaf_full leaf = nat_le 62 (vec_len leaf.keys)

-- the key that it is parted at
unfoldable pub leaf_middle : {S : Type 0} → Leaf S → ℕ → ℕ
leaf_middle leaf place = get_or leaf.keys.items (parting leaf.keys.items place) 0
