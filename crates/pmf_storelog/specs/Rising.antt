-- Numbers that rise, and the numbers of a list in order. Defined here.
use Rattle.std.specs.{Prelude.{ℕ, ◌<◌, List, [], ◌∷◌}, Ordering.{nat_cmp}, BTreeSet.{insert_key}}

-- the number is below each of these
abbrev pub IsBelow : ℕ → List ℕ → Type 0
IsBelow n [] = Unit {0}
IsBelow n (x ∷ xs) = (n < x) × IsBelow n xs

-- each number is below all that follow
abbrev pub Rises : List ℕ → Type 0
Rises [] = Unit {0}
Rises (x ∷ xs) = IsBelow x xs × Rises xs

-- rising numbers with one more, unless it is among them
abbrev pub with_number : List ℕ → ℕ → List ℕ
with_number numbers number = insert_key nat_cmp numbers number

-- the numbers of a list, each once, rising
abbrev pub in_order : List ℕ → List ℕ
in_order [] = []
in_order (n ∷ ns) = with_number (in_order ns) n
