-- What is found behind a cut: of the part as of the whole.
use Rattle.std.{proofs.Common.{◌≡◌, ◌⊎◌, ℕ, ◌<◌, Bool, true, false, not, ◌&&◌, ◌||◌, nat_lt, if◌then◌else◌, List, refl, sym, ◌∙◌, ap, subst, arith, inl, inr, Option, Some, None, is_some, is_none, lt-ltb}, specs.Cmp.{both_ways}, proofs.lemmas.Bool.{cases_lt, ltb-true, and_parts, and_from, not-true, not_from_false, false_from_ne_true}}
use Rattle.pmf_event.{specs.declared.event.Event.{Event}, specs.declared.finding.Finding.{Finding}, specs.declared.finding.Finding.TheVariants.{PersistEmpty}, specs.declared.profile.Profile.{Profile}, specs.Span.{Extent, covers_byte}, specs.Ranges.{first_byte}, specs.Store.{last_store}, specs.Interval.{interval_at, is_open}, specs.Exclusion.{is_excluded}, specs.Persist.{is_checked, is_exposed, pass_unless, persist_finding}, specs.Order.{precedes, share_line, is_stored_before, is_ordered, is_unordered, is_certified, has_partner, least_pair, finding_of_pairs, ordered_finding}, specs.LineBytes.{is_undurable}, proofs.LineLemmas.{covers-bounds, bounds-cover}, proofs.RangeLemmas.{some-or-none, first_from-same, first_from-none, none-passes, first-passes}}
use Rattle.pmf_verdict.proofs.KeptLemmas.{persist-empty, ordered-empty as ordered-none}
use Rattle.pmf_cut.specs.{Behind.{IsBehind}, Laws.{IsSameOrEmpty, IsSameOrder, KnowsPairs}}

-- ---- persist assertions

-- a byte is exposed where it is undurable and not excluded
pub exposed-is : (es : List Event) (p b : ℕ) → is_exposed es p b ≡ (is_undurable es p b && not (is_excluded es p b))
unfolding is_exposed is_checked is_undurable
exposed-is es p b = grind arith

pub checked-parts : (es : List Event) (p b : ℕ) → is_checked es p b ≡ true → (0 < last_store es p b) × (is_excluded es p b ≡ false)
unfolding is_checked
checked-parts es p b is = let parts = and_parts (nat_lt 0 (last_store es p b)) (not (is_excluded es p b)) is in (ltb-true 0 (last_store es p b) parts.0, not-true (is_excluded es p b) parts.1)

pub checked-from : (es : List Event) (p b : ℕ) → 0 < last_store es p b → is_excluded es p b ≡ false → is_checked es p b ≡ true
unfolding is_checked
checked-from es p b some included = and_from _ _ (lt-ltb 0 (last_store es p b) some) (not_from_false (is_excluded es p b) included)

exposed-checked : (es : List Event) (p b : ℕ) → is_exposed es p b ≡ true → is_checked es p b ≡ true
unfolding is_exposed
exposed-checked es p b is = (and_parts (is_checked es p b) (is_open (interval_at es p b)) is).0

-- where no byte of a span passes, none passes a narrower test
narrower-none : (few many : ℕ → Bool) (s : Extent) → ((b : ℕ) → few b ≡ true → many b ≡ true) → first_byte many s ≡ None → first_byte few s ≡ None
narrower-none few many s narrower none =
    first_from-none few s.first s.size (λ b low high. false_from_ne_true (few b) (λ is. let bad : false ≡ true = sym (none-passes many s.first s.size none b low high) ∙ narrower b is in cc))

-- where one passes, one passes a wider test
wider-some : (few many : ℕ → Bool) (s : Extent) (k : ℕ) → ((b : ℕ) → few b ≡ true → many b ≡ true) → first_byte few s ≡ Some k → is_none (first_byte many s) ≡ false
wider-some few many s k wider is = grind (arith, some-or-none, is_none, narrower-none)

persist-checked : (es : List Event) (p : ℕ) (s : Extent) → is_none (first_byte (is_checked es p) s) ≡ false → persist_finding es p s ≡ pass_unless (first_byte (is_exposed es p) s)
unfolding persist_finding
persist-checked es p s some = ap (λ v. if v then PersistEmpty else pass_unless (first_byte (is_exposed es p) s)) some

module _ (es : List Event) (p n : ℕ) (fs : List Event) (q m : ℕ) (behind : IsBehind es p n fs q m) where
  exposed-same : (b : ℕ) → is_exposed fs m b ≡ is_exposed es n b
  exposed-same b = grind (arith, exposed-is)

  checked-known : (b : ℕ) → is_checked fs m b ≡ true → is_checked es n b ≡ true
  checked-known b is = let parts = checked-parts fs m b is in checked-from es n b (behind.pairs.known b parts.0) (sym (behind.bytes.excluded b) ∙ parts.1)

  pub persist-stays : (s : Extent) → IsSameOrEmpty (persist_finding es n s) (persist_finding fs m s)
  persist-stays s = grind (arith, first_from-same, exposed-same, some-or-none, persist-checked, is_none, wider-some, checked-known, persist-empty, narrower-none, exposed-checked)

-- ---- order assertions

unordered-parts : (profile : Profile) (es : List Event) (p x y : ℕ) → is_unordered profile es p x y ≡ true →
    (is_checked es p x ≡ true) × (is_checked es p y ≡ true) × (is_ordered profile es p x y ≡ false)
unfolding is_unordered
unordered-parts profile es p x y is = grind arith

unordered-from : (profile : Profile) (es : List Event) (p x y : ℕ) → is_checked es p x ≡ true → is_checked es p y ≡ true → is_ordered profile es p x y ≡ false →
    is_unordered profile es p x y ≡ true
unfolding is_unordered
unordered-from profile es p x y one other free = grind arith

ordered-by_interval : (profile : Profile) (es : List Event) (p x y : ℕ) → precedes (interval_at es p x) (interval_at es p y) ≡ true → is_ordered profile es p x y ≡ true
unfolding is_ordered
ordered-by_interval v0 es p x y is = grind arith

certified-is : (profile : Profile) (es : List Event) (p x y : ℕ) → is_certified profile es p x y ≡ (is_unordered profile es p x y && (not (share_line x y) || is_stored_before es p y x))
unfolding is_certified
certified-is profile es p x y = refl

least_pair-within : (s t : ℕ → ℕ → Bool) (a b : Extent) → ((x y : ℕ) → covers_byte a x ≡ true → covers_byte b y ≡ true → s x y ≡ t x y) → least_pair s a b ≡ least_pair t a b
unfolding least_pair has_partner
least_pair-within s t a b same = grind (arith, first_from-same, bounds-cover, is_some, some-or-none, first-passes)

ordered-some : (profile : Profile) (es : List Event) (p : ℕ) (a b : Extent) → is_none (first_byte (is_checked es p) a) ≡ false → is_none (first_byte (is_checked es p) b) ≡ false →
    ordered_finding profile es p a b ≡ finding_of_pairs es p (least_pair (is_certified profile es p) a b) (least_pair (is_unordered profile es p) a b)
unfolding ordered_finding
ordered-some profile es p a b one other = grind arith

-- the findings of equal pairs
finding-stays : (es : List Event) (n : ℕ) (fs : List Event) (m : ℕ) (certified unordered : Option (ℕ × ℕ)) →
    IsSameOrder (finding_of_pairs es n certified unordered) (finding_of_pairs fs m certified unordered)
finding-stays es n fs m v4 unordered = grind arith

order-by : (whole other : Finding) (part another : Finding) → whole ≡ other → part ≡ another → IsSameOrder other another → IsSameOrder whole part
order-by whole other part another is is_too stays = subst (λ w. IsSameOrder w part) (sym is) (subst (λ f. IsSameOrder other f) (sym is_too) stays)

module _ (profile : Profile) (es : List Event) (p n : ℕ) (fs : List Event) (q m : ℕ) (behind : IsBehind es p n fs q m) where
  ordered-alike : (kind : Profile) (x y : ℕ) → precedes (interval_at fs m x) (interval_at fs m y) ≡ precedes (interval_at es n x) (interval_at es n y) →
      (share_line x y && is_stored_before fs m x y) ≡ (share_line x y && is_stored_before es n x y) → is_ordered kind fs m x y ≡ is_ordered kind es n x y
  unfolding is_ordered
  ordered-alike v0 x y intervals order = grind arith

  checked-same : (b : ℕ) → 0 < last_store fs m b → is_checked es n b ≡ true → is_checked fs m b ≡ true
  checked-same b known is = checked-from fs m b known (behind.bytes.excluded b ∙ (checked-parts es n b is).1)

  module _ (a b : Extent) (knows : KnowsPairs es p n fs m a b) where
    -- both bytes of a pair that is left unordered in the whole are known to the part
    known-pair : (x y : ℕ) → covers_byte a x ≡ true → covers_byte b y ≡ true → is_unordered profile es n x y ≡ true → (0 < last_store fs m x) × (0 < last_store fs m y)
    known-pair x y one other is =
        let parts = unordered-parts profile es n x y is in
        elim (knows x y one other parts.0 parts.1) [
          | inl both ↦ both
          | inr behind_cut ↦ grind (arith, cases_lt, ordered-by_interval, checked-parts)
        ]

    unordered-same : (x y : ℕ) → covers_byte a x ≡ true → covers_byte b y ≡ true → is_unordered profile fs m x y ≡ is_unordered profile es n x y
    unordered-same x y one other = grind (arith, both_ways, unordered-parts, checked-parts, unordered-from, checked-known, known-pair, checked-same, ordered-alike)

    certified-same : (x y : ℕ) → covers_byte a x ≡ true → covers_byte b y ≡ true → is_certified profile fs m x y ≡ is_certified profile es n x y
    certified-same x y one other = grind (arith, certified-is, unordered-same, known-pair)

    -- where the part checks nothing of a span, no pair of the whole is unordered
    none-unordered : (first_byte (is_checked fs m) a ≡ None) ⊎ (first_byte (is_checked fs m) b ≡ None) → (x y : ℕ) → covers_byte a x ≡ true → covers_byte b y ≡ true → is_unordered profile es n x y ≡ false
    none-unordered none x y one other = false_from_ne_true _ (λ is.
        let parts = unordered-parts profile fs m x y (unordered-same x y one other ∙ is) in
        let within_a = covers-bounds a x one in
        let within_b = covers-bounds b y other in
        elim none [
          | inl no_a ↦ let bad : false ≡ true = sym (none-passes (is_checked fs m) a.first a.size no_a x within_a.0 within_a.1) ∙ parts.0 in cc
          | inr no_b ↦ let bad : false ≡ true = sym (none-passes (is_checked fs m) b.first b.size no_b y within_b.0 within_b.1) ∙ parts.1 in cc
        ])

    ordered-empty : (first_byte (is_checked fs m) a ≡ None) ⊎ (first_byte (is_checked fs m) b ≡ None) → IsSameOrder (ordered_finding profile es n a b) (ordered_finding profile fs m a b)
    unfolding least_pair has_partner
    ordered-empty none = grind (arith, ordered-none, none-unordered, certified-is, some-or-none, order-by, ordered-some, is_none, first_from-none, is_some, bounds-cover)

    pub ordered-stays : IsSameOrder (ordered_finding profile es n a b) (ordered_finding profile fs m a b)
    ordered-stays = elim (some-or-none (first_byte (is_checked fs m) a)) [
      | inr none_a ↦ ordered-empty (inl none_a)
      | inl some_a ↦ elim (some-or-none (first_byte (is_checked fs m) b)) [
        | inr none_b ↦ ordered-empty (inr none_b)
        | inl some_b ↦
            let known = checked-known es p n fs q m behind in
            let c = least_pair (is_certified profile es n) a b in
            let u = least_pair (is_unordered profile es n) a b in
            order-by _ (finding_of_pairs es n c u) _ (finding_of_pairs fs m c u)
            (ordered-some profile es n a b (wider-some (is_checked fs m) (is_checked es n) a some_a.0 known some_a.1) (wider-some (is_checked fs m) (is_checked es n) b some_b.0 known some_b.1))
            (ordered-some profile fs m a b (ap (λ (o : Option ℕ). is_none o) some_a.1) (ap (λ (o : Option ℕ). is_none o) some_b.1)
            ∙ ap (λ w. finding_of_pairs fs m w (least_pair (is_unordered profile fs m) a b)) (least_pair-within (is_certified profile fs m) (is_certified profile es n) a b certified-same)
            ∙ ap (finding_of_pairs fs m c) (least_pair-within (is_unordered profile fs m) (is_unordered profile es n) a b unordered-same))
            (finding-stays es n fs m c u)
      ]
    ]
