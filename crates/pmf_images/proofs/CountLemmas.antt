-- How many stores lines have.
use Rattle.std.proofs.{Common.{◌≡◌, ℕ, zero, suc, ◌+◌, ◌/◌, ◌%◌, ◌<◌, ◌≤◌, true, false, ◌&&◌, nat_lt, nat_le, List, [], ◌∷◌, ◌++◌, Some, None, length, get_or, take, drop, replicate, length-take, refl, sym, ap, ◌∙◌, arith, inl, inr}, lemmas.Bool.{cases_lt, cases_eq, ltb-true}, lemmas.List.{get_or_past, get_or-take, get_or-drop, get_or-replicate, length-replicate, get_or_append_left, get_or_push, get_or_default}, lemmas.List.Sorted.{All-permutation, Contains-permutation}, lemmas.Grind.{common_steps}}
use Rattle.std.specs.List.{All, Contains}
use Rattle.std.specs.List.Sorted.{IsPermutation, IsNonDecreasingBy, IsPartitionPoint}
use Rattle.pmf_event.{specs.declared.event.Event.{Event}, specs.declared.event.Event.TheVariants.{Store}, specs.Span.{Extent}, specs.Line.{line_of_byte, meets_line}, specs.Store.{event_at, stores_line}}
use Rattle.pmf_image.{specs.Image.{count_of}, proofs.CertificateLemmas.{count_of-next, count_of-none, count_of-bound}}
use Rattle.pmf_runs.specs.Runs.{is_between}
use Rattle.pmf_images.specs.{declared.showing.Asked.{Asked}, Counts.{AreLines, IsCut}, Sums.{COUNT_LIMIT, over, lies_in, raised_if}}

-- ---- lines in their order

pub cut_from : (lines : List ℕ) (address index : ℕ) → index ≤ length lines → IsPartitionPoint (λ y. nat_lt y address ≡ true) (λ y. nat_lt y address ≡ false) lines index → IsCut lines address index
cut_from lines address index within point = record {
  within = within;
  before = λ k less. ltb-true (get_or lines k 0) address (point.0 k 0 (omega arith) less);
  behind = λ k low less. let not = point.1 k 0 low less in grind (arith, common_steps);
}

-- where a line is found
pub found : (lines : List ℕ) (line index : ℕ) → AreLines lines → IsCut lines line index → Contains lines line → (index < length lines) × (get_or lines index 0 ≡ line)
found lines line index in_order cut there =
    let j = there.0 in
    let below : j < length lines = there.1 in
    let is : get_or lines j 0 ≡ line = get_or_default lines j 0 line below ∙ there.2 in
    elim (cases_lt j index) [
      | inl less ↦ let low = cut.before j less in absurd (omega arith)
      | inr more ↦
          let within : index < length lines = omega arith in
          let high = cut.behind index (omega arith) within in
          let low = in_order.rise index j 0 more below in
          (within, omega arith)
    ]

lies_between : (lines : List ℕ) (first end from until x : ℕ) → IsCut lines first from → IsCut lines end until → x < length lines → lies_in from until x ≡ is_between first end (get_or lines x 0)
unfolding lies_in is_between
lies_between lines first end from until x at_first at_end within =
    let l = get_or lines x 0 in
    let a : nat_le from x ≡ nat_le first l = elim (cases_lt x from) [
      | inl less ↦ let low = at_first.before x less in grind (arith, common_steps)
      | inr more ↦ let high = at_first.behind x more within in grind (arith, common_steps)
    ] in
    let b : nat_lt x until ≡ nat_lt l end = elim (cases_lt x until) [
      | inl less ↦ let low = at_end.before x less in grind (arith, common_steps)
      | inr more ↦ let high = at_end.behind x more within in grind (arith, common_steps)
    ] in
    ap (λ v. v && nat_lt x until) a ∙ ap (λ v. nat_le first l && v) b

-- ---- one more event

no_store : (e : Event) → ((s : Extent) → e ≡ Store s → ⊥) → (line : ℕ) → stores_line line e ≡ false
unfolding stores_line
no_store (Store s) other line = absurd (other s refl)
no_store _ other line = refl

module _ (lines old new : List ℕ) (in_order : AreLines lines) (es : List Event) (p : ℕ) (e : Event) (here : event_at es (suc p) ≡ Some e) (few : p < COUNT_LIMIT)
    (before : (k x : ℕ) → length lines ≤ k → x < length lines → over k old (length lines) x ≡ count_of es p (get_or lines x 0)) where
  pub counted_store : (s : Extent) (first end from until : ℕ) → e ≡ Store s → ((b : ℕ) → is_between first end b ≡ meets_line s (line_of_byte b)) →
      IsCut lines first from → IsCut lines end until →
      ((k x : ℕ) → length lines ≤ k → over k old (length lines) x < COUNT_LIMIT → over k new (length lines) x ≡ raised_if (lies_in from until x) (over k old (length lines) x)) →
      (k x : ℕ) → length lines ≤ k → x < length lines → over k new (length lines) x ≡ count_of es (suc p) (get_or lines x 0)
  unfolding stores_line
  counted_store s first end from until is meets at_first at_end raised k x deep within =
      let l = get_or lines x 0 in
      let was = before k x deep within in
      let bound = count_of-bound es l p in
      let whole = in_order.aligned x 0 within in
      let own : line_of_byte l ≡ l = omega arith in
      let met : lies_in from until x ≡ stores_line l e =
      lies_between lines first end from until x at_first at_end within ∙ meets l ∙ ap (meets_line s) own ∙ sym (ap (stores_line l) is) in
      count_of-next es l p (over k old (length lines) x) (over k new (length lines) x) e was here
      (raised k x deep (omega arith) ∙ ap (λ v. raised_if v (over k old (length lines) x)) met)

  pub counted_other : ((s : Extent) → e ≡ Store s → ⊥) → (k x : ℕ) → length lines ≤ k → x < length lines → over k old (length lines) x ≡ count_of es (suc p) (get_or lines x 0)
  counted_other other k x deep within =
      let l = get_or lines x 0 in
      count_of-next es l p (over k old (length lines) x) (over k old (length lines) x) e (before k x deep within) here
      (sym (ap (λ v. raised_if v (over k old (length lines) x)) (no_store e other l)))

-- ---- no event

over_none : (k : ℕ) (sums : List ℕ) (width x : ℕ) → ((i : ℕ) → get_or sums i 0 ≡ 0) → over k sums width x ≡ 0
unfolding over
over_none zero sums width x none = refl
over_none (suc k) sums width x none =
    let here : get_or (take width sums) x 0 ≡ 0 = elim (cases_lt x width) [
      | inl less ↦ get_or-take width sums x 0 less ∙ none x
      | inr more ↦ get_or_past (take width sums) x 0 (let short = length-take width sums in omega arith)
    ] in
    let above = over_none k (drop width sums) (width / 2) (x / 2) (λ i. get_or-drop width sums i 0 ∙ none (width + i)) in
    omega arith

abbrev pub zeros : ℕ → List ℕ
zeros n = replicate n 0

zero_at : (n i : ℕ) → get_or (zeros n) i 0 ≡ 0
zero_at n i = elim (cases_lt i n) [
  | inl less ↦ get_or-replicate n i 0 0 less
  | inr more ↦ get_or_past (zeros n) i 0 (let long : length (zeros n) ≡ n = length-replicate n 0 in omega arith)
]

pub counted_none : (lines : List ℕ) (n : ℕ) (es : List Event) (k x : ℕ) → over k (zeros n) (length lines) x ≡ count_of es 0 (get_or lines x 0)
counted_none lines n es k x = over_none k (zeros n) (length lines) x (zero_at n) ∙ sym (count_of-none es (get_or lines x 0))

-- ---- the lines of what is asked

none : Asked
none = record { certificate = record { crash = 0; full_line = None }; place = 0; byte = 0 }

module _ (asked : List Asked) (old new : List ℕ) (long : length old ≡ length asked) (each : (k d : ℕ) (a : Asked) → k < length asked → get_or old k d ≡ line_of_byte (get_or asked k a).byte)
    (moved : IsPermutation old new) where
  pub sorted_lines : IsNonDecreasingBy (λ x. x) new → AreLines new
  sorted_lines rise =
      let own : All (λ x. x % 64 ≡ 0) old = λ k d less. let is = each k d none (omega arith) in omega arith in
      let all = All-permutation (λ x. x % 64 ≡ 0) old new moved own in record {
        rise = rise;
        aligned = λ k d less. all k d less;
      }

  pub all_lines : (k : ℕ) (a : Asked) → k < length asked → Contains new (line_of_byte (get_or asked k a).byte)
  all_lines k a less = Contains-permutation old new (line_of_byte (get_or asked k a).byte) moved (k, omega arith, each k (line_of_byte (get_or asked k a).byte) a less)

-- one more
pub line_more : (asked : List Asked) (i : ℕ) (old new : List ℕ) (line : ℕ) → length old ≡ i → new ≡ old ++ line ∷ [] → ((a : Asked) → line ≡ line_of_byte (get_or asked i a).byte) →
    ((k d : ℕ) (a : Asked) → k < i → get_or old k d ≡ line_of_byte (get_or asked k a).byte) →
    (k d : ℕ) (a : Asked) → k < suc i → get_or new k d ≡ line_of_byte (get_or asked k a).byte
line_more asked i old new line long is own before k d a less = elim (cases_eq k i) [
  | inl same ↦ rw (is, same) (get_or_push old line d i long ∙ own a)
  | inr other ↦ rw is (get_or_append_left old (line ∷ []) d k (omega arith) ∙ before k d a (omega arith))
]

-- ---- what is read

pub told : (lines sums : List ℕ) (line index total : ℕ) (es : List Event) (p : ℕ) → AreLines lines → IsCut lines line index → Contains lines line → p ≤ COUNT_LIMIT →
    ((k x : ℕ) → length lines ≤ k → x < length lines → over k sums (length lines) x ≡ count_of es p (get_or lines x 0)) →
    ((k : ℕ) → length lines ≤ k → over k sums (length lines) index ≤ COUNT_LIMIT → total ≡ over k sums (length lines) index) → total ≡ count_of es p line
told lines sums line index total es p in_order cut there few counted read =
    let at = found lines line index in_order cut there in
    let n = length lines in
    let is = counted n index (omega arith) at.0 in
    let bound = count_of-bound es (get_or lines index 0) p in
    read n (omega arith) (omega arith) ∙ is ∙ ap (count_of es p) at.1
