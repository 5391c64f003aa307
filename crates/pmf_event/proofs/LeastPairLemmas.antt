-- Laws of the search for the least pair, whatever the test of pairs.
use Rattle.std.proofs.{Common.{◌≡◌, ℕ, ◌+◌, ◌<◌, ◌≤◌, Bool, true, false, List, refl, sym, ◌∙◌, ap, subst, inl, inr, Option, Some, None, is_some}, lemmas.Bool.{and_parts}, lemmas.Option.{none-some}}
use Rattle.pmf_event.{specs.declared.event.Event.{Event}, specs.declared.profile.Profile.{Profile}, specs.Span.{Extent, covers_byte}, specs.Ranges.{first_from, first_byte}, specs.Order.{has_partner, paired, with_partner, is_unordered, is_certified, least_pair}, proofs.LineLemmas.{covers-bounds, bounds-cover}, proofs.RangeLemmas.{some-or-none, none-from, first_from-none, none-passes, first-passes, first_from-same}}

-- the n numbers from b on have one that passes
pub record HasOne (test : ℕ → Bool) (b n : ℕ) : Type 0 where
  pub place : ℕ
  pub from : b ≤ place
  pub within : place < b + n
  pub passes : test place ≡ true

pub first-from-one : (test : ℕ → Bool) (b n : ℕ) → HasOne test b n → is_some (first_from test b n) ≡ true
first-from-one test b n one = elim (first_from test b n) as (λ o. first_from test b n ≡ o → is_some o ≡ true) [
  | None ↦ λ none. let bad : false ≡ true = sym (none-passes test b n none one.place one.from one.within) ∙ one.passes in cc
  | Some k ↦ λ is. refl
] refl

pub one-from-first : (test : ℕ → Bool) (b n : ℕ) → is_some (first_from test b n) ≡ true → HasOne test b n
one-from-first test b n some = elim (first_from test b n) as (λ o. first_from test b n ≡ o → is_some o ≡ true → HasOne test b n) [
  | None ↦ λ none bad. let wrong : false ≡ true = bad in cc
  | Some k ↦ λ is more. let first = first-passes test b n k is in record { place = k; from = first.from; within = first.within; passes = first.passes }
] refl some

pub partner-from_one : (test : ℕ → ℕ → Bool) (b : Extent) (x : ℕ) → HasOne (test x) b.first b.size → has_partner test b x ≡ true
unfolding has_partner
partner-from_one test b x one = first-from-one (test x) b.first b.size one

pub one-from_partner : (test : ℕ → ℕ → Bool) (b : Extent) (x : ℕ) → has_partner test b x ≡ true → HasOne (test x) b.first b.size
unfolding has_partner
one-from_partner test b x some = one-from-first (test x) b.first b.size some

module _ (test : ℕ → ℕ → Bool) (a b : Extent) where
  -- the least pair, from a test that tells which bytes have a partner
  pub least_pair-by : (has : ℕ → Bool) → ((x : ℕ) → has_partner test b x ≡ has x) →
      least_pair test a b ≡ with_partner test b (first_byte has a)
  unfolding least_pair
  least_pair-by has same = ap (with_partner test b) (first_from-same (has_partner test b) has a.first a.size (λ k low high. same k))

  pub least_pair-none : ((x : ℕ) → has_partner test b x ≡ false) → least_pair test a b ≡ None
  unfolding least_pair
  least_pair-none none = ap (with_partner test b) (first_from-none (has_partner test b) a.first a.size (λ k low high. none k))

-- pairs that pass alike
pub least_pair-same : (s t : ℕ → ℕ → Bool) (a b : Extent) → ((x y : ℕ) → s x y ≡ t x y) → least_pair s a b ≡ least_pair t a b
unfolding least_pair has_partner
least_pair-same s t a b same =
    least_pair-step (first_from-same _ _ a.first a.size (λ x low high. ap (λ (o : Option ℕ). is_some o) (first_from-same (s x) (t x) b.first b.size (λ y low high. same x y))))
    ∙ partner-same (first_byte (has_partner t b) a)
  where
    least_pair-step : first_byte (has_partner s b) a ≡ first_byte (has_partner t b) a → with_partner s b (first_byte (has_partner s b) a) ≡ with_partner s b (first_byte (has_partner t b) a)
    least_pair-step is = ap (with_partner s b) is

    partner-same : (o : Option ℕ) → with_partner s b o ≡ with_partner t b o
    partner-same None = refl
    partner-same (Some x) = ap (paired x) (first_from-same (s x) (t x) b.first b.size (λ y low high. same x y))

-- ---- where there is no pair

partner-none : (x : ℕ) (o : Option ℕ) → paired x o ≡ None → is_some o ≡ false
partner-none x None is = refl
partner-none x (Some y) is = absurd (none-some (x, y) (sym is))

module _ (few many : ℕ → ℕ → Bool) (a b : Extent) where
  -- without a pair no byte has a partner
  no_partner : least_pair many a b ≡ None → (x : ℕ) → a.first ≤ x → x < a.first + a.size → has_partner many b x ≡ false
  unfolding least_pair has_partner
  no_partner none = elim (some-or-none (first_byte (has_partner many b) a)) [
    | inl found ↦
        let first = first-passes (has_partner many b) a.first a.size found.0 found.1 in
        let alone = partner-none found.0 (first_byte (many found.0) b) (sym (ap (with_partner many b) found.1) ∙ none) in
        let bad : true ≡ false = sym first.passes ∙ alone in cc
    | inr nothing ↦ none-passes (has_partner many b) a.first a.size nothing
  ]

  -- where none of many pairs is there, none of some of them is
  pub fewer-none : ((x y : ℕ) → few x y ≡ true → many x y ≡ true) → least_pair many a b ≡ None → least_pair few a b ≡ None
  unfolding least_pair has_partner
  fewer-none some_of none = ap (with_partner few b) (first_from-none (has_partner few b) a.first a.size (λ x low high.
      let alone = none-from (first_byte (many x) b) (no_partner none x low high) in
      ap (λ (o : Option ℕ). is_some o) (first_from-none (few x) b.first b.size (λ y from to.
      elim (few x y) as (λ v. few x y ≡ v → v ≡ false) [
        | true ↦ λ is. sym (some_of x y is) ∙ none-passes (many x) b.first b.size alone y from to
        | false ↦ λ is. refl
      ] refl))))

-- without a pair no two bytes pass
pub unpaired : (test : ℕ → ℕ → Bool) (a b : Extent) → least_pair test a b ≡ None →
    (x y : ℕ) → covers_byte a x ≡ true → covers_byte b y ≡ true → test x y ≡ false
unfolding has_partner
unpaired test a b none x y in_a in_b =
    let one = covers-bounds a x in_a in
    let other = covers-bounds b y in_b in
    none-passes (test x) b.first b.size (none-from (first_byte (test x) b) (no_partner test test a b none x one.0 one.1)) y other.0 other.1

-- ---- where there is one

-- a pair of the two spans that passes
pub record Pair (test : ℕ → ℕ → Bool) (a b : Extent) (x y : ℕ) : Type 0 where
  pub one : covers_byte a x ≡ true
  pub other : covers_byte b y ≡ true
  pub passes : test x y ≡ true

paired-parts : (z : ℕ) (o : Option ℕ) (x y : ℕ) → paired z o ≡ Some (x, y) → (z ≡ x) × (o ≡ Some y)
paired-parts z None x y is = let bad : ◌≡◌ {A = Option (ℕ × ℕ)} None (Some (x, y)) = is in cc
paired-parts z (Some k) x y is =
    let pair : ◌≡◌ {A = ℕ × ℕ} (z, k) (x, y) = cc in (ap (λ q. q.0) pair, ap (λ q. Some q.1) pair)

pair-by : (test : ℕ → ℕ → Bool) (a b : Extent) (x y : ℕ) (o : Option ℕ) → first_byte (has_partner test b) a ≡ o → with_partner test b o ≡ Some (x, y) → Pair test a b x y
pair-by test a b x y None none is = let bad : ◌≡◌ {A = Option (ℕ × ℕ)} None (Some (x, y)) = is in cc
pair-by test a b x y (Some z) found is =
    let parts = paired-parts z (first_byte (test z) b) x y is in
    let first = first-passes (has_partner test b) a.first a.size z found in
    let second = first-passes (test z) b.first b.size y parts.1 in
    record {
      one = subst (λ k. covers_byte a k ≡ true) parts.0 (bounds-cover a z first.from first.within);
      other = bounds-cover b y second.from second.within;
      passes = subst (λ k. test k y ≡ true) parts.0 second.passes;
    }

-- the pair that is found passes, and its bytes are of the spans
pub pair-from : (test : ℕ → ℕ → Bool) (a b : Extent) (x y : ℕ) → least_pair test a b ≡ Some (x, y) → Pair test a b x y
unfolding least_pair
pair-from test a b x y is = pair-by test a b x y (first_byte (has_partner test b) a) refl is

-- a certified pair is unordered
pub certified-unordered : (profile : Profile) (es : List Event) (p x y : ℕ) → is_certified profile es p x y ≡ true → is_unordered profile es p x y ≡ true
unfolding is_certified
certified-unordered profile es p x y is = (and_parts (is_unordered profile es p x y) _ is).0
