-- What a view saw, and what stands.
use Rattle.std.proofs.{Common.{◌≡◌, ℕ, ◌<◌, ◌≤◌, ◌≢◌, max, Bool, true, false, cond, ◌&&◌, eqb, ◌⊎◌, inl, inr, ⊎_elim, List, [], ◌∷◌, ◌++◌, length, set, count_by, refl, sym, ◌∙◌, ap, subst, arith, get_or-set_same, get_or-set_other, eqb-true, eq-eqb, Contains}, lemmas.Grind.{common_steps}, lemmas.List.Elements.{Contains-append_cases, Contains-append_left, Contains-append_right, Contains-push, Contains-push_cases}, lemmas.List.Sums.{sum_by-cons}, lemmas.Bool.{cases_eq}}
use Rattle.pmf_board.specs.{declared.entry.Entry.{Entry}, declared.view.Sight.{Sight}, Machine.{entry_at}, Views.{most_in, tells_done, sight}}

abbrev bit : Bool → ℕ
bit b = cond b 1 0

module _ (board : List Entry) (s : ℕ) (x : Entry) where
  -- what is true of the entry set and of all others before is true of all
  pub entry-set : (P : ℕ → Entry → Type 0) → s < length board → P s x → ((t : ℕ) → t ≢ s → P t (entry_at board t)) → (t : ℕ) → P t (entry_at (set board s x) t)
  entry-set P within here other t = grind (arith, common_steps, ⊎_elim, get_or-set_same, get_or-set_other, cases_eq)

module _ (s t n : ℕ) (x : Entry) (xs : List Sight) where
  pub most-le : (s ≡ t → x.handouts ≤ n) → most_in t xs ≤ n → most_in t (sight s x ∷ xs) ≤ n
  most-le here rest = by (eqb s t) refl
    where
      by : (b : Bool) → eqb s t ≡ b → max (cond b x.handouts 0) (most_in t xs) ≤ n
      by true e = let h = here (eqb-true s t e) in omega (arith, h, rest)
      by false e = omega (arith, rest)

module _ (s : ℕ) (x : Entry) (xs : List Sight) where
  pub most-more : (t : ℕ) → most_in t xs ≤ most_in t (sight s x ∷ xs)
  most-more t = omega arith

  pub most-here : most_in s xs ≤ x.handouts → most_in s (sight s x ∷ xs) ≡ x.handouts
  most-here le = ap (λ b. max (cond b x.handouts 0) (most_in s xs)) (eq-eqb s s refl) ∙ omega (arith, le)

  pub dones-more : (t : ℕ) → count_by (tells_done t) xs ≤ count_by (tells_done t) (sight s x ∷ xs)
  dones-more t = omega (arith, sum_by-cons (λ y. cond (tells_done t y) 1 0) (sight s x) xs)

  pub dones-here : x.done ≡ true → 0 < count_by (tells_done s) (sight s x ∷ xs)
  dones-here done = grind (arith, common_steps, eq-eqb, sum_by-cons)

  pub dones-cons : (t : ℕ) → 0 < count_by (tells_done t) (sight s x ∷ xs) → ((s ≡ t) × (x.done ≡ true)) ⊎ (0 < count_by (tells_done t) xs)
  dones-cons t some = by (eqb s t) x.done refl refl
    where
      by : (b d : Bool) → eqb s t ≡ b → x.done ≡ d → ((s ≡ t) × (x.done ≡ true)) ⊎ (0 < count_by (tells_done t) xs)
      by true true e d = inl (eqb-true s t e, d)
      by true false e d = let none : bit (eqb s t && x.done) ≡ 0 = (λ i. bit (e i && d i)) in inr (omega (arith, some, none, sum_by-cons (λ y. cond (tells_done t y) 1 0) (sight s x) xs))
      by false d' e d = let none : bit (eqb s t && x.done) ≡ 0 = (λ i. bit (e i && x.done)) in inr (omega (arith, some, none, sum_by-cons (λ y. cond (tells_done t y) 1 0) (sight s x) xs))

-- a sight is the first, or is behind it
pub first-or_behind : (x y : Sight) (xs : List Sight) → Contains (y ∷ xs) x → (x ≡ y) ⊎ Contains xs x
first-or_behind x y xs found = grind (arith, common_steps, Contains-append_cases, Contains-push_cases)

pub none-in_none : (x : Sight) → Contains [] x → ⊥
none-in_none x found = let within = found.1 in omega (arith, within)

-- a section that was seen done has a sight that tells so
pub dones-found : (s : ℕ) (xs : List Sight) → 0 < count_by (tells_done s) xs → (x : Sight) × Contains xs x × (x.section ≡ s) × (x.entry.done ≡ true)
dones-found s [] some = absurd (omega (arith, some))
dones-found s (x ∷ xs) some = elim (dones-cons x.section x.entry xs s some) [
  | inl here ↦ (x, Contains-append_left (x ∷ []) xs x (Contains-push [] x), here.0, here.1)
  | inr later ↦ let found = dones-found s xs later in (found.0, Contains-append_right (x ∷ []) xs found.0 found.1, found.2, found.3)
]

-- the most hand-outs in the sights are at least those of each
pub most-of : (x : Sight) (xs : List Sight) → Contains xs x → x.entry.handouts ≤ most_in x.section xs
most-of x [] found = absurd (none-in_none x found)
most-of x (y ∷ xs) found = elim (first-or_behind x y xs found) [
  | inl is ↦
      let here = ap (λ b. cond b y.entry.handouts 0) (eq-eqb y.section y.section refl) in
      subst (λ (z : Sight). z.entry.handouts ≤ most_in z.section (y ∷ xs)) (sym is) (omega (arith, here))
  | inr later ↦ let rest = most-of x xs later in omega (arith, rest)
]

-- the most of two lists
module _ (s : ℕ) where
  pub most-append_le : (xs ys : List Sight) (n : ℕ) → most_in s xs ≤ n → most_in s ys ≤ n → most_in s (xs ++ ys) ≤ n
  most-append_le [] ys n a b = b
  most-append_le (x ∷ xs) ys n a b = let r = most-append_le xs ys n (omega (arith, a)) b in omega (arith, r, a)

  pub most-append_left : (xs ys : List Sight) → most_in s xs ≤ most_in s (xs ++ ys)
  most-append_left [] ys = omega arith
  most-append_left (x ∷ xs) ys = let r = most-append_left xs ys in omega (arith, r)

  pub most-append_right : (xs ys : List Sight) → most_in s ys ≤ most_in s (xs ++ ys)
  most-append_right [] ys = omega arith
  most-append_right (x ∷ xs) ys = let r = most-append_right xs ys in omega (arith, r)
