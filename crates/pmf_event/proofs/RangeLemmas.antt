-- Laws of the searches over a range of numbers.
use Rattle.std.proofs.{Common.{◌≡◌, ℕ, zero, suc, ◌+◌, ◌<◌, ◌≤◌, min, Bool, true, false, nat_le, if◌then◌else◌, refl, sym, ◌∙◌, ap, arith, inl, inr, Option, Some, None, is_some, ◌⊎◌}, lemmas.Bool.{cases_eq, leb-true, leb-false}}
use Rattle.pmf_event.specs.Ranges.{first_from, count_from, lesser, least_from}

-- ---- what a search found, or that it found none

pub some-or-none : (o : Option ℕ) → ((k : ℕ) × (o ≡ Some k)) ⊎ (o ≡ None)
some-or-none None = inr refl
some-or-none (Some k) = inl (k, refl)

pub some-from : (o : Option ℕ) → is_some o ≡ true → (k : ℕ) × (o ≡ Some k)
some-from None is = let bad : false ≡ true = is in cc
some-from (Some k) is = (k, refl)

pub none-from : (o : Option ℕ) → is_some o ≡ false → o ≡ None
none-from None is = refl
none-from (Some k) is = let bad : true ≡ false = is in cc

-- ---- the first of a range

-- none of the n numbers from b on passes
abbrev pub NonePass : (ℕ → Bool) → ℕ → ℕ → Type 0
NonePass test b n = (k : ℕ) → b ≤ k → k < b + n → test k ≡ false

-- k is the least of the n numbers from b on that passes
pub record IsFirst (test : ℕ → Bool) (b n k : ℕ) : Type 0 where
  pub from : b ≤ k
  pub within : k < b + n
  pub passes : test k ≡ true
  pub before : (j : ℕ) → b ≤ j → j < k → test j ≡ false

module _ (test : ℕ → Bool) where
  pub first_from-none : (b n : ℕ) → NonePass test b n → first_from test b n ≡ None
  unfolding first_from
  first_from-none b zero none = refl
  first_from-none b (suc n) none =
      ap (λ v. if v then Some b else first_from test (b + 1) n) (none b (omega arith) (omega arith))
      ∙ first_from-none (b + 1) n (λ k low high. none k (omega arith) (omega arith))

  pub first_from-some : (b n k : ℕ) → IsFirst test b n k → first_from test b n ≡ Some k
  unfolding first_from
  first_from-some b zero k first = let low = first.from in let high = first.within in absurd (omega arith)
  first_from-some b (suc n) k first = elim (cases_eq b k) [
    | inl same ↦ ap (λ v. if v then Some b else first_from test (b + 1) n) (ap test same ∙ first.passes) ∙ ap (λ j. Some j) same
    | inr other ↦
        let low = first.from in let high = first.within in
        ap (λ v. if v then Some b else first_from test (b + 1) n) (first.before b (omega arith) (omega arith))
        ∙ first_from-some (b + 1) n k (record { from = omega arith; within = omega arith; passes = first.passes; before = λ j from until. first.before j (omega arith) until })
  ]

  pub none-passes : (b n : ℕ) → first_from test b n ≡ None → NonePass test b n
  unfolding first_from
  none-passes b zero none k low high = absurd (omega arith)
  none-passes b (suc n) none k low high =
      elim (test b) as (λ v. test b ≡ v → (if v then Some b else first_from test (b + 1) n) ≡ None → test k ≡ false) [
        | true ↦ λ here bad. cc
        | false ↦ λ here rest. elim (cases_eq k b) [
          | inl same ↦ ap test same ∙ here
          | inr other ↦ none-passes (b + 1) n rest k (omega arith) (omega arith)
        ]
      ] refl none

  pub first-passes : (b n k : ℕ) → first_from test b n ≡ Some k → IsFirst test b n k
  unfolding first_from
  first-passes b zero k is = let bad : None ≡ Some k = is in cc
  first-passes b (suc n) k is =
      elim (test b) as (λ v. test b ≡ v → (if v then Some b else first_from test (b + 1) n) ≡ Some k → IsFirst test b (suc n) k) [
        | true ↦ λ here found. let same : b ≡ k = cc in record {
          from = omega arith;
          within = omega arith;
          passes = ap test (sym same) ∙ here;
          before = λ j from until. absurd (omega arith);
        }
        | false ↦ λ here rest.
            let later = first-passes (b + 1) n k rest in
            let low = later.from in let high = later.within in record {
              from = omega arith;
              within = omega arith;
              passes = later.passes;
              before = λ j from until. elim (cases_eq j b) [
                | inl same ↦ ap test same ∙ here
                | inr other ↦ later.before j (omega arith) until
              ];
            }
      ] refl is

-- tests that agree on the range find the same
pub first_from-same : (s t : ℕ → Bool) (b n : ℕ) → ((k : ℕ) → b ≤ k → k < b + n → s k ≡ t k) → first_from s b n ≡ first_from t b n
unfolding first_from
first_from-same s t b zero same = refl
first_from-same s t b (suc n) same =
    ap (λ v. if v then Some b else first_from s (b + 1) n) (same b (omega arith) (omega arith))
    ∙ ap (λ o. if t b then Some b else o) (first_from-same s t (b + 1) n (λ k low high. same k (omega arith) (omega arith)))

pub count_from-same : (s t : ℕ → Bool) (b n : ℕ) → ((k : ℕ) → b ≤ k → k < b + n → s k ≡ t k) → count_from s b n ≡ count_from t b n
unfolding count_from
count_from-same s t b zero same = refl
count_from-same s t b (suc n) same =
    ap (λ v. if v then suc (count_from s (b + 1) n) else count_from s (b + 1) n) (same b (omega arith) (omega arith))
    ∙ ap (λ c. if t b then suc c else c) (count_from-same s t (b + 1) n (λ k low high. same k (omega arith) (omega arith)))

-- ---- a count in two parts, and over numbers that are all alike

module _ (test : ℕ → Bool) where
  count_if : Bool → ℕ → ℕ
  count_if t c = if t then suc c else c

-- ---- the lesser of values that may be missing

lesser-min : (x y : ℕ) → lesser (Some x) (Some y) ≡ Some (min x y)
lesser-min x y = elim (nat_le x y) as (λ v. nat_le x y ≡ v → (if v then Some x else Some y) ≡ Some (min x y)) [
  | true ↦ λ is. let low = leb-true x y is in let same : x ≡ min x y = omega arith in ap (λ k. Some k) same
  | false ↦ λ is. let high = leb-false x y is in let same : y ≡ min x y = omega arith in ap (λ k. Some k) same
] refl

pub lesser-none : (x : Option ℕ) → lesser x None ≡ x
lesser-none None = refl
lesser-none (Some x) = refl

pub lesser-itself : (x : Option ℕ) → lesser x x ≡ x
lesser-itself None = refl
lesser-itself (Some x) = let same : min x x ≡ x = omega arith in lesser-min x x ∙ ap (λ k. Some k) same

pub lesser-assoc : (x y z : Option ℕ) → lesser (lesser x y) z ≡ lesser x (lesser y z)
lesser-assoc None y z = refl
lesser-assoc (Some x) None z = refl
lesser-assoc (Some x) (Some y) None = lesser-none (lesser (Some x) (Some y))
lesser-assoc (Some x) (Some y) (Some z) =
    let same : min (min x y) z ≡ min x (min y z) = omega arith in
    ap (λ o. lesser o (Some z)) (lesser-min x y) ∙ lesser-min (min x y) z ∙ ap (λ k. Some k) same
    ∙ sym (lesser-min x (min y z)) ∙ ap (lesser (Some x)) (sym (lesser-min y z))

-- ---- the least value in two parts, and over numbers that are all alike

module _ (value : ℕ → Option ℕ) where
  -- the m numbers from b on, and the n after them
  pub least_from-split : (b m n : ℕ) (whole middle : ℕ) → whole ≡ m + n → middle ≡ b + m → least_from value b whole ≡ lesser (least_from value b m) (least_from value middle n)
  unfolding least_from
  least_from-split b zero n whole middle all at =
      let same : whole ≡ n = omega arith in
      let here : middle ≡ b = omega arith in
      ap (least_from value b) same ∙ ap (λ k. least_from value k n) (sym here)
  least_from-split b (suc m) n zero middle all at = absurd (omega arith)
  least_from-split b (suc m) n (suc whole) middle all at =
      ap (lesser (value b)) (least_from-split (b + 1) m n whole middle (omega arith) (omega arith))
      ∙ sym (lesser-assoc (value b) (least_from value (b + 1) m) (least_from value middle n))

  pub least_from-alike : (b n : ℕ) (x : Option ℕ) → 0 < n → ((k : ℕ) → b ≤ k → k < b + n → value k ≡ x) → least_from value b n ≡ x
  unfolding least_from
  least_from-alike b zero x some alike = absurd (omega arith)
  least_from-alike b (suc zero) x some alike = lesser-none (value b) ∙ alike b (omega arith) (omega arith)
  least_from-alike b (suc (suc n)) x some alike =
      ap (λ v. lesser v (least_from value (b + 1) (suc n))) (alike b (omega arith) (omega arith))
      ∙ ap (lesser x) (least_from-alike (b + 1) (suc n) x (omega arith) (λ k low high. alike k (omega arith) (omega arith)))
      ∙ lesser-itself x

-- values that agree on the range have the same least
pub least_from-same : (v w : ℕ → Option ℕ) (b n : ℕ) → ((k : ℕ) → b ≤ k → k < b + n → v k ≡ w k) → least_from v b n ≡ least_from w b n
unfolding least_from
least_from-same v w b zero same = refl
least_from-same v w b (suc n) same =
    ap (λ x. lesser x (least_from v (b + 1) n)) (same b (omega arith) (omega arith))
    ∙ ap (lesser (w b)) (least_from-same v w (b + 1) n (λ k low high. same k (omega arith) (omega arith)))
