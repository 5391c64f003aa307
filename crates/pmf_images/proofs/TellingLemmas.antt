-- What is asked of a walk, in the order of the places.
use Rattle.std.proofs.{Common.{◌≡◌, ℕ, suc, ◌+◌, ◌<◌, ◌≤◌, List, [], ◌∷◌, ◌++◌, None, subst, length, get_or, set, sym, ap, ◌∙◌, arith, inl, inr}, lemmas.Bool.{cases_eq}, lemmas.List.{get_or_append_left, get_or_push, get_or_default, get_or-set_same, get_or-set_other}, lemmas.List.Sorted.{All-permutation, Contains-permutation}}
use Rattle.std.specs.List.{All}
use Rattle.std.specs.List.Sorted.{IsPermutation, IsNonDecreasingBy}
use Rattle.pmf_images.specs.{declared.{showing.Asked.{Asked}, telling.Due.{Due}}, Telling.{due_at, AreDue, AreTold}}

abbrev pub due_none : Due
due_none = record { place = 0; byte = 0; index = 0 }

none : Asked
none = record { certificate = record { crash = 0; full_line = None }; place = 0; byte = 0 }

-- one more that is asked
pub due_more : (places : List ℕ) (asked : List Asked) (i : ℕ) (old new : List Due) (due : Due) → length old ≡ i → new ≡ old ++ due ∷ [] → ((a : Asked) → due ≡ due_at places asked i a) →
    ((k : ℕ) (d : Due) (a : Asked) → k < i → get_or old k d ≡ due_at places asked k a) →
    (k : ℕ) (d : Due) (a : Asked) → k < suc i → get_or new k d ≡ due_at places asked k a
due_more places asked i old new due long is own before k d a less = elim (cases_eq k i) [
  | inl same ↦ rw (is, same) (get_or_push old due d i long ∙ own a)
  | inr other ↦ rw is (get_or_append_left old (due ∷ []) d k (omega arith) ∙ before k d a (omega arith))
]

-- all of them in another order
module _ (places : List ℕ) (asked : List Asked) where
  IsOne : Due → Type 0
  IsOne due = (due.index < length asked) × ((a : Asked) → due ≡ due_at places asked due.index a)

  is_one : (k : ℕ) (x : Due) → k < length asked → ((a : Asked) → x ≡ due_at places asked k a) → IsOne x
  unfolding IsOne
  is_one k x within is = (
    subst (λ i. i < length asked) (sym (ap (λ (due : Due). due.index) (is none))) within,
    λ a. is a ∙ ap (λ i. due_at places asked i a) (sym (ap (λ (due : Due). due.index) (is none))),
  )

  pub due_sorted : (old new : List Due) → length old ≡ length asked → ((k : ℕ) (d : Due) (a : Asked) → k < length asked → get_or old k d ≡ due_at places asked k a) →
      IsPermutation old new → IsNonDecreasingBy (λ (d : Due). d.place) new → AreDue places asked new
  unfolding IsOne
  due_sorted old new long each moved rise =
      let own : All IsOne old = λ k d less. is_one k (get_or old k d) (omega arith) (λ a. each k d a (omega arith)) in
      let all = All-permutation IsOne old new moved own in record {
        rise = rise;
        each = λ k d a less. (all k d less).1 a;
        within = λ k d less. (all k d less).0;
        all = λ j a less.
            let one = due_at places asked j a in
            let there = Contains-permutation old new one moved (j, omega arith, each j one a less) in (
              there.0,
              there.1,
              λ d. ap (λ (due : Due). due.index) (get_or_default new there.0 d one there.1 ∙ there.2),
            );
      }

-- ---- answers

-- the first i are answered
abbrev pub Answered : (ℕ → ℕ → ℕ) → List ℕ → List Asked → List Due → List ℕ → ℕ → Type 0
Answered told places asked dues answers i = (k : ℕ) (d : Due) (a : Asked) → k < i →
    get_or answers (get_or dues k d).index 0 ≡ told (get_or places (get_or dues k d).index 0) (get_or asked (get_or dues k d).index a).byte

module _ (told : ℕ → ℕ → ℕ) (places : List ℕ) (asked : List Asked) (dues : List Due) (due : AreDue places asked dues) where
  -- one more
  pub answered_more : (old : List ℕ) (i x : ℕ) (e : Due) → length old ≡ length asked → i < length dues → x ≡ told (get_or dues i e).place (get_or dues i e).byte →
      Answered told places asked dues old i → Answered told places asked dues (set old (get_or dues i e).index x) (i + 1)
  answered_more old i x e long within is before k d a less =
      let j = (get_or dues i e).index in
      let low = due.within i e within in
      let own = due.each i e a within in
      elim (cases_eq (get_or dues k d).index j) [
        | inl same ↦
            ap (λ n. get_or (set old j x) n 0) same
            ∙ get_or-set_same old j x 0 (omega arith)
            ∙ is
            ∙ ap (λ (o : Due). told o.place o.byte) own
            ∙ sym (ap (λ n. told (get_or places n 0) (get_or asked n a).byte) same)
        | inr other ↦
            let not_last : k ≡ i → ⊥ = λ last. other (ap (λ n. (get_or dues n d).index) last ∙ ap (λ (o : Due). o.index) (get_or_default dues i d e within)) in
            get_or-set_other old j (get_or dues k d).index x 0 other
            ∙ before k d a (elim (cases_eq k i) [ inl last ↦ absurd (not_last last) | inr not ↦ omega arith ])
      ]

  -- all
  pub answered_all : (answers : List ℕ) (i : ℕ) → length answers ≡ length asked → length dues ≤ i → Answered told places asked dues answers i → AreTold told places asked answers
  answered_all answers i long all done = record {
    long = long;
    each = λ k a less.
        let found = due.all k a less in
        let index = found.2 due_none in
        sym (ap (λ n. get_or answers n 0) index) ∙ done found.0 due_none a (let low = found.1 in omega arith) ∙ ap (λ n. told (get_or places n 0) (get_or asked n a).byte) index;
  }

  -- what is due lies within the events, and is known, where that holds of each place and of each byte
  pub due-within : (n i : ℕ) (e : Due) → length places ≡ length asked → ((k : ℕ) → k < length places → get_or places k 0 ≤ n) → i < length dues → (get_or dues i e).place ≤ n
  due-within n i e alike within less =
      let low = due.within i e less in
      let own = ap (λ (o : Due). o.place) (due.each i e none less) in
      let most = within (get_or dues i e).index (omega arith) in
      omega arith

  pub due-known : (Knows : ℕ → Type 0) (i : ℕ) (e : Due) → ((k : ℕ) (a : Asked) → k < length asked → Knows (get_or asked k a).byte) → i < length dues → Knows (get_or dues i e).byte
  due-known Knows i e known less =
      subst Knows (sym (ap (λ (o : Due). o.byte) (due.each i e none less))) (known (get_or dues i e).index none (due.within i e less))
