-- Totals over all views.
use Rattle.std.proofs.{Common.{◌≡◌, ℕ, zero, suc, ◌+◌, ◌≤◌, List, [], ◌∷◌, ◌++◌, set, sum_by, refl, sym, ap, arith}, lemmas.List.Sums.{sum_by-cons, sum_by-append}}
use mathlib.Core.Option.{some, some-injective, some-ne-none}
use lib.ListN.{get_elem?}

module _ {X : Type 0} (f : X → ℕ) where
  -- the total after a change of one
  pub total-set : (l : List X) (i : ℕ) (v w : X) → get_elem? l i ≡ some v → sum_by f (set l i w) + f v ≡ sum_by f l + f w
  total-set [] i v w e = absurd (some-ne-none v (sym e))
  total-set (x ∷ xs) zero v w e = let is : f x ≡ f v = ap f (some-injective x v e) in omega (arith, sum_by-cons f w xs, sum_by-cons f x xs)
  total-set (x ∷ xs) (suc i) v w e = omega (arith, total-set xs i v w e, sum_by-cons f x (set xs i w), sum_by-cons f x xs)

  -- one is at most the total
  pub total-at : (l : List X) (i : ℕ) (v : X) → get_elem? l i ≡ some v → f v ≤ sum_by f l
  total-at [] i v e = absurd (some-ne-none v (sym e))
  total-at (x ∷ xs) zero v e = let is : f x ≡ f v = ap f (some-injective x v e) in omega (arith, sum_by-cons f x xs)
  total-at (x ∷ xs) (suc i) v e = omega (arith, total-at xs i v e, sum_by-cons f x xs)

  -- the total with one more
  pub total-snoc : (l : List X) (v : X) → sum_by f (l ++ v ∷ []) ≡ sum_by f l + f v
  total-snoc l v = omega (arith, sum_by-append f l (v ∷ []), sum_by-cons f v [])

module _ {X : Type 0} (f g : X → ℕ) where
  -- where nobody has a part of f, nobody has one of g
  pub total-none : (l : List X) → ((i : ℕ) (x : X) → get_elem? l i ≡ some x → f x ≡ 0 → g x ≡ 0) → sum_by f l ≡ 0 → sum_by g l ≡ 0
  total-none [] h e = omega arith
  total-none (x ∷ xs) h e =
      let here : f x ≡ 0 = omega (arith, e, sum_by-cons f x xs) in
      let rest : sum_by f xs ≡ 0 = omega (arith, e, sum_by-cons f x xs) in
      let none = h 0 x refl here in
      omega (arith, none, total-none xs (λ i y at. h (suc i) y at) rest, sum_by-cons g x xs)

  -- where one has all of f, it has all of g
  pub total-alone : (l : List X) (i : ℕ) (v : X) → ((i : ℕ) (x : X) → get_elem? l i ≡ some x → f x ≡ 0 → g x ≡ 0) → get_elem? l i ≡ some v → sum_by f l ≡ f v → sum_by g l ≡ g v
  total-alone [] i v h e all = absurd (some-ne-none v (sym e))
  total-alone (x ∷ xs) zero v h e all =
      let is : f x ≡ f v = ap f (some-injective x v e) in
      let is' : g x ≡ g v = ap g (some-injective x v e) in
      let rest : sum_by f xs ≡ 0 = omega (arith, all, sum_by-cons f x xs) in
      omega (arith, is', total-none xs (λ i y at. h (suc i) y at) rest, sum_by-cons g x xs)
  total-alone (x ∷ xs) (suc i) v h e all =
      let at_most = total-at f xs i v e in
      let here : f x ≡ 0 = omega (arith, all, at_most, sum_by-cons f x xs) in
      let rest : sum_by f xs ≡ f v = omega (arith, all, at_most, sum_by-cons f x xs) in
      let none = h 0 x refl here in
      omega (arith, none, total-alone xs i v (λ i y at. h (suc i) y at) e rest, sum_by-cons g x xs)
