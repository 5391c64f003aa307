-- Numbers in rising order, and which of a range are among them.
use Rattle.std.specs.Prelude.{◌≡◌, ℕ, ◌<◌, ◌≤◌, List, length, get_or, Bool, true}
use Rattle.pmf_runs.specs.Ranks.{HasKey}

-- no number is above one that follows
pub record NeverFall (numbers : List ℕ) : Type 0 where
  pub order : (i j : ℕ) → i ≤ j → j < length numbers → get_or numbers i 0 ≤ get_or numbers j 0

-- the number is none of these
abbrev pub IsOutside : List ℕ → ℕ → Type 0
IsOutside numbers q = HasKey numbers q → ⊥

-- where that is told, no number that passes is outside of these
pub record AreListed (told : Bool) (numbers : List ℕ) (passes : ℕ → Bool) : Type 0 where
  pub listed : told ≡ true → (q : ℕ) → passes q ≡ true → IsOutside numbers q → ⊥

-- so many numbers from the front are below this one, and no other is
pub record IsIndexOf (numbers : List ℕ) (number index : ℕ) : Type 0 where
  pub within : index ≤ length numbers
  pub before : (k : ℕ) → k < index → get_or numbers k 0 < number
  pub behind : (k : ℕ) → index ≤ k → k < length numbers → number ≤ get_or numbers k 0

-- none of the numbers lies from the first one up to the end
pub record NoneListed (numbers : List ℕ) (first end : ℕ) : Type 0 where
  pub none : (q : ℕ) → first ≤ q → q < end → IsOutside numbers q
