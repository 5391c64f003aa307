-- The numbers of a list in order: they rise, are those of the list, and with one more are one insertion more.
use Rattle.std.{proofs.Common.{◌≡◌, ℕ, zero, suc, ◌<◌, List, [], ◌∷◌, ◌++◌, length, get_or, refl, sym, ◌∙◌, ap, subst, arith, inl, inr, ◌⊎◌, Contains, nat_cmp}, proofs.lemmas.Bool.{cases_order}, specs.BTreeSet.{insert_key}, proofs.lemmas.Grind.{common_steps}}
use Rattle.pmf_storelog.specs.{Rising.{IsBelow, Rises, with_number, in_order}, Laws.{InOrderIsTheSetInOrder}}

-- the number is among them
abbrev pub Has : ℕ → List ℕ → Type 0
Has n [] = ⊥
Has n (x ∷ xs) = (n ≡ x) ⊎ Has n xs

below-less : (m n : ℕ) (xs : List ℕ) → m < n → IsBelow n xs → IsBelow m xs
below-less m n [] less below = tt
below-less m n (x ∷ xs) less below = ((let b = below.0 in omega (arith, b, less)), below-less m n xs less below.1)

has-above : (m n : ℕ) (xs : List ℕ) → IsBelow m xs → Has n xs → m < n
has-above m n [] below has = absurd has
has-above m n (x ∷ xs) below has = elim has [ inl is ↦ subst (λ y. m < y) (sym is) below.0 | inr later ↦ has-above m n xs below.1 later ]

below-insert : (m n : ℕ) (xs : List ℕ) → m < n → IsBelow m xs → IsBelow m (insert_key nat_cmp xs n)
below-insert m n [] less below = (less, tt)
below-insert m n (x ∷ xs) less below = grind (arith, common_steps, cases_order, below-insert m n xs less)

rising-insert : (n : ℕ) (xs : List ℕ) → Rises xs → Rises (insert_key nat_cmp xs n)
rising-insert n [] rising = (tt, tt)
rising-insert n (x ∷ xs) rising = grind (arith, common_steps, cases_order, below-less, below-insert, rising-insert n xs rising.1)

pub has-insert : (n : ℕ) (xs : List ℕ) → Has n (insert_key nat_cmp xs n)
has-insert n [] = inl refl
has-insert n (x ∷ xs) = grind (arith, common_steps, cases_order, has-insert n xs)

pub insert-present : (n : ℕ) (xs : List ℕ) → Rises xs → Has n xs → insert_key nat_cmp xs n ≡ xs
insert-present n [] rising has = absurd has
insert-present n (x ∷ xs) rising has = grind (arith, common_steps, cases_order, has-above, insert-present n xs rising.1)

-- the numbers with one more have those that were there, and that one
has-kept : (k n : ℕ) (xs : List ℕ) → Has k xs → Has k (insert_key nat_cmp xs n)
has-kept k n [] has = absurd has
has-kept k n (x ∷ xs) has = grind (arith, common_steps, cases_order, has-kept k n xs)

has-either : (k n : ℕ) (xs : List ℕ) → Has k (insert_key nat_cmp xs n) → (k ≡ n) ⊎ Has k xs
has-either k n [] has = has
has-either k n (x ∷ xs) has = grind (arith, common_steps, cases_order, has-either k n xs)

pub in_order-rises : (ns : List ℕ) → Rises (in_order ns)
in_order-rises [] = tt
in_order-rises (n ∷ ns) = rising-insert n (in_order ns) (in_order-rises ns)

has-in_order : (k : ℕ) (ns : List ℕ) → Has k ns → Has k (in_order ns)
has-in_order k [] has = absurd has
has-in_order k (n ∷ ns) has = grind (arith, common_steps, has-insert, has-kept, has-in_order k ns)

in_order-has : (k : ℕ) (ns : List ℕ) → Has k (in_order ns) → Has k ns
in_order-has k [] has = absurd has
in_order-has k (n ∷ ns) has = elim (has-either k n (in_order ns) has) [ inl is ↦ inl is | inr later ↦ inr (in_order-has k ns later) ]

-- a number is among them at some place
contains-has : (n : ℕ) (xs : List ℕ) (k : ℕ) → k < length xs → get_or xs k n ≡ n → Has n xs
contains-has n [] k within is = absurd (omega (arith, within))
contains-has n (x ∷ xs) zero within is = inl (sym is)
contains-has n (x ∷ xs) (suc k) within is = inr (contains-has n xs k (omega (arith, within)) is)

has-contains : (n : ℕ) (xs : List ℕ) → Has n xs → Contains xs n
has-contains n [] has = absurd has
has-contains n (x ∷ xs) has = elim has [ inl is ↦ (0, omega arith, sym is) | inr later ↦ let there = has-contains n xs later in (suc there.0, omega (arith, there.1), there.2) ]

pub the_set_in_order : InOrderIsTheSetInOrder
the_set_in_order ns = grind (arith, common_steps, in_order-rises, has-contains, in_order-has, contains-has, has-in_order)

-- it is the same which of two numbers comes first
low_first : (m n : ℕ) (xs : List ℕ) → m < n → with_number (with_number xs m) n ≡ with_number (with_number xs n) m
low_first m n [] less = grind (arith, common_steps, cases_order)
low_first m n (x ∷ xs) less = grind (arith, common_steps, cases_order, low_first m n xs less)

either_first : (m n : ℕ) (xs : List ℕ) → with_number (with_number xs m) n ≡ with_number (with_number xs n) m
either_first m n xs = grind (arith, common_steps, cases_order, low_first)

-- one number more at the end is one insertion more
pub in_order-push : (ns : List ℕ) (n : ℕ) → in_order (ns ++ n ∷ []) ≡ with_number (in_order ns) n
in_order-push [] n = refl
in_order-push (m ∷ ns) n = ap (λ ms. with_number ms m) (in_order-push ns n) ∙ either_first n m (in_order ns)
