-- Laws of the searches over places.
use Rattle.std.proofs.{Common.{◌≡◌, ℕ, zero, suc, ◌-◌, ◌<◌, ◌≤◌, Bool, true, false, if◌then◌else◌, nat_lt, refl, ◌∙◌, inl, inr, arith, ltb-false, lt-ltb}, lemmas.Bool.{cases_lt, ltb-true}, Math.Numerals.{sub-one}}
use Rattle.pmf_event.specs.Places.{greatest, least, count, some_between}

-- the tests agree on the places from 1 to n
abbrev pub SameUpTo : (ℕ → Bool) → (ℕ → Bool) → ℕ → Type 0
SameUpTo s t n = (k : ℕ) → 0 < k → k ≤ n → s k ≡ t k

-- a place after i, up to j, that passes
pub record Found (test : ℕ → Bool) (i j : ℕ) : Type 0 where
  pub place : ℕ
  pub after : i < place
  pub within : place ≤ j
  pub passes : test place ≡ true

module _ (test : ℕ → Bool) where
  pub greatest-step : (n : ℕ) → greatest test (suc n) ≡ (if test (suc n) then suc n else greatest test n)
  unfolding greatest
  greatest-step n = refl

  pub least-step : (n : ℕ) → least test (suc n) ≡ (if nat_lt 0 (least test n) then least test n else (if test (suc n) then suc n else 0))
  unfolding least
  least-step n = refl

  pub count-step : (n : ℕ) → count test (suc n) ≡ (if test (suc n) then suc (count test n) else count test n)
  unfolding count
  count-step n = refl

  pub greatest-zero : greatest test 0 ≡ 0
  unfolding greatest
  greatest-zero = refl

  pub least-zero : least test 0 ≡ 0
  unfolding least
  least-zero = refl

  pub count-zero : count test 0 ≡ 0
  unfolding count
  count-zero = refl

  pub greatest-bound : (n : ℕ) → greatest test n ≤ n
  unfolding greatest
  greatest-bound zero = omega arith
  greatest-bound (suc n) =
      let before = greatest-bound n in
      elim (test (suc n)) as (λ v. (if v then suc n else greatest test n) ≤ suc n) [ true ↦ omega arith | false ↦ omega arith ]

  pub greatest-passes : (n : ℕ) → 0 < greatest test n → test (greatest test n) ≡ true
  unfolding greatest
  greatest-passes zero some = absurd (omega arith)
  greatest-passes (suc n) some =
      elim (test (suc n)) as (λ v. test (suc n) ≡ v → 0 < (if v then suc n else greatest test n) → test (if v then suc n else greatest test n) ≡ true) [
        | true ↦ λ is more. is
        | false ↦ λ is more. greatest-passes n more
      ] refl some

  pub greatest-above : (n k : ℕ) → 0 < k → k ≤ n → test k ≡ true → k ≤ greatest test n
  unfolding greatest
  greatest-above zero k positive within passes = omega arith
  greatest-above (suc n) k positive within passes =
      elim (test (suc n)) as (λ v. test (suc n) ≡ v → k ≤ (if v then suc n else greatest test n)) [
        | true ↦ λ is. within
        | false ↦ λ is. elim (cases_lt n k) [
          | inl above ↦ let here : k ≡ suc n = omega arith in cc
          | inr below ↦ greatest-above n k positive below passes
        ]
      ] refl

  pub least-bound : (n : ℕ) → least test n ≤ n
  unfolding least
  least-bound zero = omega arith
  least-bound (suc n) =
      let before = least-bound n in
      elim (nat_lt 0 (least test n)) as (λ u. (if u then least test n else (if test (suc n) then suc n else 0)) ≤ suc n) [
        | true ↦ omega arith
        | false ↦ elim (test (suc n)) as (λ v. (if v then suc n else 0) ≤ suc n) [ true ↦ omega arith | false ↦ omega arith ]
      ]

  pub least-passes : (n : ℕ) → 0 < least test n → test (least test n) ≡ true
  unfolding least
  least-passes zero some = absurd (omega arith)
  least-passes (suc n) some =
      elim (nat_lt 0 (least test n)) as (λ u. nat_lt 0 (least test n) ≡ u →
      0 < (if u then least test n else (if test (suc n) then suc n else 0)) →
      test (if u then least test n else (if test (suc n) then suc n else 0)) ≡ true) [
        | true ↦ λ earlier more. least-passes n more
        | false ↦ λ earlier. elim (test (suc n)) as (λ v. test (suc n) ≡ v → 0 < (if v then suc n else 0) → test (if v then suc n else 0) ≡ true) [
          | true ↦ λ is more. is
          | false ↦ λ is more. absurd (omega arith)
        ] refl
      ] refl some

  -- no place is found where finding one is absurd
  pub least-none : (n : ℕ) → (0 < least test n → ⊥) → least test n ≡ 0
  least-none n never = elim (cases_lt 0 (least test n)) [
    | inl some ↦ absurd (never some)
    | inr none ↦ omega arith
  ]

  -- nor where only places behind the end pass
  pub least-none_behind : (n : ℕ) → ((k : ℕ) → test k ≡ true → n < k) → least test n ≡ 0
  least-none_behind n behind =
      least-none n (λ some. let past = behind (least test n) (least-passes n some) in let bound = least-bound n in omega arith)

  -- where some place passes, the least that passes is there, and none before it
  pub least-below : (n k : ℕ) → 0 < k → k ≤ n → test k ≡ true → (0 < least test n) × (least test n ≤ k)
  unfolding least
  least-below zero k positive within passes = absurd (omega arith)
  least-below (suc n) k positive within passes =
      elim (nat_lt 0 (least test n)) as (λ u. nat_lt 0 (least test n) ≡ u →
      (0 < (if u then least test n else (if test (suc n) then suc n else 0))) × ((if u then least test n else (if test (suc n) then suc n else 0)) ≤ k)) [
        | true ↦ λ earlier. let some = ltb-true 0 (least test n) earlier in let bound = least-bound n in elim (cases_lt n k) [
          | inl above ↦ (some, omega arith)
          | inr below ↦ (some, (least-below n k positive below passes).1)
        ]
        | false ↦ λ earlier. let none : least test n ≤ 0 = ltb-false 0 (least test n) earlier in elim (cases_lt n k) [
          | inl above ↦ elim (test (suc n)) as (λ v. test (suc n) ≡ v → (0 < (if v then suc n else 0)) × ((if v then suc n else 0) ≤ k)) [
            | true ↦ λ is. (omega arith, omega arith)
            | false ↦ λ is. let here : k ≡ suc n = omega arith in cc
          ] refl
          | inr below ↦ let found = least-below n k positive below passes in absurd (omega (arith, found.0))
        ]
      ] refl

  pub count-mono : (m n : ℕ) → m ≤ n → count test m ≤ count test n
  unfolding count
  count-mono m zero within = let same : m ≡ 0 = omega arith in rw same (omega arith)
  count-mono m (suc n) within = elim (cases_lt n m) [
    | inl above ↦ let same : m ≡ suc n = omega arith in rw same (omega arith)
    | inr below ↦ let before = count-mono m n below in
        elim (test (suc n)) as (λ v. count test m ≤ (if v then suc (count test n) else count test n)) [ true ↦ omega arith | false ↦ omega arith ]
  ]

  pub count-here : (k : ℕ) → 0 < k → test k ≡ true → count test k ≡ suc (count test (k - 1))
  unfolding count
  count-here zero positive passes = absurd (omega arith)
  count-here (suc k) positive passes = rw (sub-one, passes) refl

  -- where the count rose, a place passes
  pub count-found : (m n : ℕ) → count test m < count test n → Found test m n
  unfolding count
  count-found m zero more = absurd (omega arith)
  count-found m (suc n) more =
      elim (test (suc n)) as (λ v. test (suc n) ≡ v → count test m < (if v then suc (count test n) else count test n) → Found test m (suc n)) [
        | true ↦ λ is rose. elim (cases_lt m (suc n)) [
          | inl before ↦ record { place = suc n; after = before; within = omega arith; passes = is }
          | inr past ↦ let fewer = count-mono (suc n) m past in absurd (let step : count test (suc n) ≡ suc (count test n) = count-here (suc n) (omega arith) is ∙ rw sub-one refl in omega arith)
        ]
        | false ↦ λ is rose. let found = count-found m n rose in
            record { place = found.place; after = found.after; within = omega (arith, found.within); passes = found.passes }
      ] refl more

  pub some_between-here : (i j k : ℕ) → i < k → k < j → test k ≡ true → some_between test i j ≡ true
  unfolding some_between
  some_between-here i j k after before passes =
      let above = greatest-above (j - 1) k (omega arith) (omega arith) passes in lt-ltb i (greatest test (j - 1)) (omega arith)

  pub some_between-found : (i j : ℕ) → some_between test i j ≡ true → Found test i (j - 1)
  unfolding some_between
  some_between-found i j some =
      let after = ltb-true i (greatest test (j - 1)) some in
      record { place = greatest test (j - 1); after = after; within = greatest-bound (j - 1); passes = greatest-passes (j - 1) (omega arith) }

  pub count-le : (n : ℕ) → count test n ≤ n
  unfolding count
  count-le zero = omega arith
  count-le (suc n) =
      let before = count-le n in
      elim (test (suc n)) as (λ v. (if v then suc (count test n) else count test n) ≤ suc n) [ true ↦ omega arith | false ↦ omega arith ]
