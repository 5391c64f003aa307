-- A search of a span in three pieces: before a line, on it, and after it.
use Rattle.std.proofs.{lemmas.Bool.Decides.{nat_tests}, Common.{◌≡◌, ℕ, zero, suc, ◌+◌, ◌-◌, ◌%◌, ◌<◌, ◌≤◌, Bool, true, false, sym, ◌∙◌, ap, arith, subst, inl, inr, min, max, ◌⊎◌, Option, Some, is_some}, lemmas.Bool.{cases_eq}}
use Rattle.pmf_event.{specs.Span.{Extent}, specs.Ranges.{first_from, lesser, least_from}, proofs.RangeLemmas.{first_from-none, first_from-some, none-passes, first-passes, some-or-none, some-from, none-from}}
use Rattle.pmf_shadow.{specs.Pairs.{by_line, on_line, off_line, HasValue, IsLeastValue}}

module _ (line : ℕ) (aligned : line % 64 ≡ 0) where
  module _ (on off : ℕ → Bool) where
    module _ (first size end : ℕ) (at_end : end ≡ first + size) where
      pub piece-before : (o : Option ℕ) → o ≡ first_from off first (min end line - first) → is_some o ≡ true → o ≡ first_from (by_line line on off) first size
      unfolding by_line
      piece-before o is some =
          let found = some-from o some in
          let own = first-passes off first (min end line - first) found.0 (sym is ∙ found.1) in
          found.1 ∙ sym (first_from-some (by_line line on off) first size found.0 (grind (arith, nat_tests)))

      pub piece-within : (o : Option ℕ) → is_some (first_from off first (min end line - first)) ≡ false →
          o ≡ first_from on (max first line) (min end (line + 64) - max first line) → is_some o ≡ true → o ≡ first_from (by_line line on off) first size
      unfolding by_line
      piece-within o none is some =
          let found = some-from o some in
          let none_before = none-passes off first (min end line - first) (none-from (first_from off first (min end line - first)) none) in
          let own = first-passes on (max first line) (min end (line + 64) - max first line) found.0 (sym is ∙ found.1) in
          found.1 ∙ sym (first_from-some (by_line line on off) first size found.0 (grind (arith, nat_tests)))

      pub piece-after : (o : Option ℕ) → is_some (first_from off first (min end line - first)) ≡ false →
          is_some (first_from on (max first line) (min end (line + 64) - max first line)) ≡ false →
          o ≡ first_from off (max first (line + 64)) (end - max first (line + 64)) → o ≡ first_from (by_line line on off) first size
      unfolding by_line
      piece-after o none none_on is =
          let z = max first (line + 64) in
          let none_before = none-passes off first (min end line - first) (none-from (first_from off first (min end line - first)) none) in
          let none_within = none-passes on (max first line) (min end (line + 64) - max first line) (none-from (first_from on (max first line) (min end (line + 64) - max first line)) none_on) in
          elim (some-or-none o) [
            | inl found ↦
                let own = first-passes off z (end - z) found.0 (sym is ∙ found.1) in
                found.1 ∙ sym (first_from-some (by_line line on off) first size found.0 (grind (arith, nat_tests)))
            | inr nothing ↦
                let none_after = none-passes off z (end - z) (sym is ∙ nothing) in
                nothing ∙ sym (first_from-none (by_line line on off) first size (λ j low high. grind (arith, nat_tests)))
          ]

-- ---- least values

-- two parts that hold every value between them
pub parts-least : (value one other : ℕ → Option ℕ) (b n c m d l : ℕ) (x y : Option ℕ) → IsLeastValue one c m x → IsLeastValue other d l y →
    ((k : ℕ) → b ≤ k → k < b + n → (v : ℕ) → value k ≡ Some v → ((c ≤ k) × (k < c + m) × (one k ≡ Some v)) ⊎ ((d ≤ k) × (k < d + l) × (other k ≡ Some v))) →
    ((k v : ℕ) → c ≤ k → k < c + m → one k ≡ Some v → (b ≤ k) × (k < b + n) × (value k ≡ Some v)) →
    ((k v : ℕ) → d ≤ k → k < d + l → other k ≡ Some v → (b ≤ k) × (k < b + n) × (value k ≡ Some v)) →
    IsLeastValue value b n (lesser x y)
parts-least value one other b n c m d l x y first second covered left right = record {
  none = λ none k low high. grind (arith, covered k low high, first.none, second.none);
  has = λ v is. elim (chosen v is) [ inl own ↦ moved one c m v left (first.has v own) | inr own ↦ moved other d l v right (second.has v own) ];
  bound = λ v is k u low high at.
      let left : (p : ℕ) → x ≡ Some p → c ≤ k → k < c + m → one k ≡ Some u → p ≤ u = λ p own after before here. first.bound p own k u after before here in
      let right : (p : ℕ) → y ≡ Some p → d ≤ k → k < d + l → other k ≡ Some u → p ≤ u = λ p own after before here. second.bound p own k u after before here in
      grind (arith, covered k low high u at, first.none, second.none, left, right);
}
  where
    moved : (p : ℕ → Option ℕ) (q r v : ℕ) → ((k v : ℕ) → q ≤ k → k < q + r → p k ≡ Some v → (b ≤ k) × (k < b + n) × (value k ≡ Some v)) → HasValue p q r v → HasValue value b n v
    moved p q r v into own = let there = into own.place v own.from own.within own.is in record { place = own.place; from = there.0; within = there.1; is = there.2 }

    chosen : (v : ℕ) → lesser x y ≡ Some v → (x ≡ Some v) ⊎ (y ≡ Some v)
    chosen v is = grind arith

pub least_from-is : (value : ℕ → Option ℕ) (b n : ℕ) → IsLeastValue value b n (least_from value b n)
unfolding least_from
least_from-is value b zero = record { none = λ none k low high. absurd (omega arith); has = λ v bad. cc; bound = λ v bad k u low high at. absurd (omega arith) }
least_from-is value b (suc n) = parts-least value value value b (suc n) b 1 (b + 1) n (value b) (least_from value (b + 1) n)
    (record {
      none = λ none k low high. let same : k ≡ b = omega arith in ap value same ∙ none;
      has = λ v is. record { place = b; from = omega arith; within = omega arith; is = is };
      bound = λ v is k u low high at. let same : k ≡ b = omega arith in let own : Some v ≡ Some u = sym is ∙ ap value (sym same) ∙ at in let level : v ≡ u = cc in omega arith;
    })
    (least_from-is value (b + 1) n)
    (λ k low high v is. elim (cases_eq k b) [
      | inl same ↦ inl (omega arith, omega arith, is)
      | inr apart ↦ inr (omega arith, omega arith, is)
    ])
    (λ k v low high is. (omega arith, omega arith, is))
    (λ k v low high is. (omega arith, omega arith, is))

module _ (line : ℕ) (aligned : line % 64 ≡ 0) (value : ℕ → Option ℕ) (first size end : ℕ) (at_end : end ≡ first + size) where
  pub least-on : IsLeastValue (on_line line value) first size (least_from value (max first line) (min end (line + 64) - max first line))
  unfolding on_line
  least-on =
      let v = max first line in
      let own = least_from-is value v (min end (line + 64) - v) in record {
        none = λ none k low high. grind (arith, nat_tests, own.none);
        has = λ u is. let there = own.has u is in record { place = there.place; from = grind arith; within = grind arith; is = grind (arith, nat_tests) };
        bound = λ u is k w low high at. grind (arith, nat_tests, own.bound);
      }

  pub least-off : IsLeastValue (off_line line value) first size (lesser (least_from value first (min end line - first)) (least_from value (max first (line + 64)) (end - max first (line + 64))))
  unfolding off_line
  least-off =
      let z = max first (line + 64) in
      parts-least (off_line line value) value value first size first (min end line - first) z (end - z) _ _
      (least_from-is value first (min end line - first)) (least_from-is value z (end - z))
      (λ k low high v at. grind (arith, nat_tests)) (λ k v low high at. grind (arith, nat_tests)) (λ k v low high at. grind (arith, nat_tests))

-- the least value of a whole span
pub least-of_span : (value : ℕ → Option ℕ) (s : Extent) (first end : ℕ) (o : Option ℕ) → first ≡ s.first → end ≡ s.first + s.size →
    o ≡ least_from value first (end - first) → IsLeastValue value s.first s.size o
least-of_span value s first end o at_first at_end is =
    let whole : end - first ≡ s.size = omega arith in
    subst (IsLeastValue value s.first s.size) (sym (is ∙ ap (λ k. least_from value k (end - first)) at_first ∙ ap (least_from value s.first) whole)) (least_from-is value s.first s.size)
