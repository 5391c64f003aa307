-- Which assertions hold, by their rows.
use Rattle.std.proofs.{Common.{◌≡◌, ℕ, zero, suc, ◌-◌, ◌<◌, ◌≤◌, Bool, true, false, if◌then◌else◌, List, [], ◌∷◌, map, length, refl, sym, ◌∙◌, ap, subst, arith, inl, inr, ◌↔◌, ◌⊎◌, Option, Some, None, Contains, is_none}, lemmas.List.Elements.{Contains-append_left, Contains-append_right}, lemmas.Bool.{cases_eq}}
use Rattle.pmf_event.{specs.declared.event.Event.{Event}, specs.declared.event.Event.TheVariants.{Persist, Ordered, CheckEnd}, specs.declared.finding.Finding.{Finding}, specs.declared.finding.Finding.TheVariants.{PersistPass, PersistFail, PersistEmpty, OrderedPass, OrderedFail, OrderedSameLine, OrderedEmpty, CheckPass, CheckFail}, specs.declared.profile.Profile.{Profile}, specs.declared.profile.Profile.TheVariants.{One, Two}, specs.declared.span.TheConstants.{ADDRESS_LIMIT}, specs.Line.{line_of_byte}, specs.Span.{Extent, covers_byte}, specs.Store.{event_at, last_store}, specs.Ranges.{first_from, first_byte}, specs.Persist.{is_checked, is_exposed, pass_unless, persist_finding}, specs.Order.{is_stored_before, is_ordered, is_unordered, is_certified, least_pair, finding_of_pairs, ordered_finding}, specs.Transactions.{in_transaction, in_scope, is_left_open, scope_passes_unless, check_finding}, proofs.RangeLemmas.{none-passes}, proofs.LeastPairLemmas.{pair-from, unpaired}, proofs.LineLemmas.{covers-bounds}}
use Rattle.pmf_image.{specs.declared.certificate.Certificate.{Certificate}, specs.Contradiction.{ContradictsEvent}, specs.Holds.{PersistHolds, OrderedHolds, ScopeHolds, EventHolds, Holds}, proofs.ExactLemmas.{not_holds-contradicted, holds-by_profile_two, checked-parts}}
use Rattle.pmf_verdict.{specs.Rows.{findings_of, row_at, rows_upto, rows_at_end, rows_of}, specs.Explained.{certificate_of}, specs.Exact.{IsPassOrEmpty, IsNotFailed, AreApart, OrderIsExact, IsExact, SameLinesAreOneStore}, proofs.RowsLemmas.{place-within}, proofs.KindLemmas.{kind_of, persist-kind, ordered-kind, persist-from_rows, ordered-from_rows}, proofs.ExplainLemmas.{contradicted-by}, proofs.SoundLemmas.{passes_hold, orders_hold, scopes_hold}}

-- ---- each assertion has a row

in-upto : (profile : Profile) (es : List Event) (p : ℕ) (f : Finding) → findings_of profile es p (event_at es p) ≡ f ∷ [] → 0 < p →
    (n : ℕ) → p ≤ n → Contains (rows_upto profile es n) (row_at p f)
unfolding rows_upto
in-upto profile es p f only some zero within = absurd (omega arith)
in-upto profile es p f only some (suc n) within =
    let here = map (row_at (suc n)) (findings_of profile es (suc n) (event_at es (suc n))) in
    elim (cases_eq p (suc n)) [
      | inl last ↦
          let own : map (row_at p) (findings_of profile es p (event_at es p)) ≡ row_at p f ∷ [] = ap (map (row_at p)) only in
          let found : Contains (map (row_at p) (findings_of profile es p (event_at es p))) (row_at p f) =
          subst (λ rows. Contains rows (row_at p f)) (sym own) (0, omega arith, refl) in
          Contains-append_right (rows_upto profile es n) here (row_at p f)
          (subst (λ q. Contains (map (row_at q) (findings_of profile es q (event_at es q))) (row_at p f)) last found)
      | inr before ↦ Contains-append_left (rows_upto profile es n) here (row_at p f) (in-upto profile es p f only some n (omega arith))
    ]

pub row-of : (profile : Profile) (es : List Event) (p : ℕ) (e : Event) (f : Finding) → event_at es p ≡ Some e → findings_of profile es p (Some e) ≡ f ∷ [] →
    Contains (rows_of profile es) (row_at p f)
unfolding rows_of
row-of profile es p e f here only =
    let within = place-within es p e here in
    Contains-append_left (rows_upto profile es (length es)) (rows_at_end es (length es)) (row_at p f)
    (in-upto profile es p f (ap (findings_of profile es p) here ∙ only) within.0 (length es) within.1)

pub persist-row : (profile : Profile) (es : List Event) (p : ℕ) (s : Extent) → event_at es p ≡ Some (Persist s) → Contains (rows_of profile es) (row_at p (persist_finding es p s))
unfolding findings_of
persist-row profile es p s here = row-of profile es p (Persist s) (persist_finding es p s) here refl

pub ordered-row : (profile : Profile) (es : List Event) (p : ℕ) (a b : Extent) → event_at es p ≡ Some (Ordered a b) →
    Contains (rows_of profile es) (row_at p (ordered_finding profile es p a b))
unfolding findings_of
ordered-row profile es p a b here = row-of profile es p (Ordered a b) (ordered_finding profile es p a b) here refl

pub check-row : (profile : Profile) (es : List Event) (p : ℕ) → event_at es p ≡ Some CheckEnd → Contains (rows_of profile es) (row_at p (check_finding es (p - 1)))
unfolding findings_of
check-row profile es p here = row-of profile es p CheckEnd (check_finding es (p - 1)) here refl

-- ---- what failed does not hold

not_holds-failed : (profile : Profile) (es : List Event) (p : ℕ) (c : Certificate) (f : Finding) → Contains (rows_of profile es) (row_at p f) →
    certificate_of p f ≡ Some c → c.crash ≤ length es → Holds es p → ⊥
not_holds-failed profile es p c f found is within holds = not_holds-contradicted es p c within (contradicted-by profile es p c f found is) holds

none-from : {A : Type 0} (o : Option A) → is_none o ≡ true → o ≡ None
none-from o is = grind arith

-- ---- persist assertions

module _ (profile : Profile) (es : List Event) (p : ℕ) (s : Extent) (here : event_at es p ≡ Some (Persist s)) where
  passed-by_row : (f : Finding) → kind_of f ≡ 1 → Contains (rows_of profile es) (row_at p f) → PersistHolds es p s →
      Contains (rows_of profile es) (row_at p PersistPass) ⊎ Contains (rows_of profile es) (row_at p PersistEmpty)
  passed-by_row PersistPass kind found holds = inl found
  passed-by_row PersistEmpty kind found holds = inr found
  passed-by_row (PersistFail b) kind found holds =
      absurd (not_holds-failed profile es p (record { crash = p; full_line = None }) (PersistFail b) found refl (place-within es p (Persist s) here).1
      (subst (EventHolds es p) (sym here) holds))
  passed-by_row _ kind found holds = absurd (omega (arith, kind))

  unchecked-persist : (v : Bool) (o : Option ℕ) → PersistEmpty ≡ (if v then PersistEmpty else pass_unless o) → v ≡ true
  unchecked-persist v o is = grind arith

  holds-empty : Contains (rows_of profile es) (row_at p PersistEmpty) → PersistHolds es p s
  unfolding persist_finding
  holds-empty found n later within image allowed b covered checked =
      let own = persist-from_rows profile es p PersistEmpty found refl in
      let none = none-from (first_byte (is_checked es p) own.0) (unchecked-persist (is_none (first_byte (is_checked es p) own.0)) (first_byte (is_exposed es p) own.0) own.2) in
      let same : Some (Persist own.0) ≡ Some (Persist s) = sym own.1 ∙ here in
      let spans : own.0 ≡ s = cc in
      let bounds = covers-bounds s b covered in
      let shut = none-passes (is_checked es p) s.first s.size (subst (λ t. first_byte (is_checked es p) t ≡ None) spans none) b bounds.0 bounds.1 in
      let bad : true ≡ false = sym checked ∙ shut in cc

  holds-passed : Contains (rows_of profile es) (row_at p PersistPass) → PersistHolds es p s
  holds-passed found =
      let own = passes_hold profile es p found in
      let same : Some (Persist own.0) ≡ Some (Persist s) = sym own.1 ∙ here in
      let spans : own.0 ≡ s = cc in
      subst (PersistHolds es p) spans own.2

  persist-exact : PersistHolds es p s ↔ (Contains (rows_of profile es) (row_at p PersistPass) ⊎ Contains (rows_of profile es) (row_at p PersistEmpty))
  persist-exact = (
    λ holds. passed-by_row (persist_finding es p s) (persist-kind es p s) (persist-row profile es p s here) holds,
    λ rows. elim rows [ inl passed ↦ holds-passed passed | inr empty ↦ holds-empty empty ],
  )

-- ---- order assertions

module _ (profile : Profile) (es : List Event) (p : ℕ) (a b : Extent) (here : event_at es p ≡ Some (Ordered a b)) where
  kept-by_row : (f : Finding) → kind_of f ≡ 2 → Contains (rows_of profile es) (row_at p f) → OrderedHolds es p a b → IsNotFailed (rows_of profile es) p
  kept-by_row OrderedPass kind found holds = inl (inl found)
  kept-by_row OrderedEmpty kind found holds = inl (inr found)
  kept-by_row (OrderedSameLine x y) kind found holds = inr (x, y, found)
  kept-by_row (OrderedFail x y n) kind found holds =
      let contradicted = subst (ContradictsEvent es p (record { crash = n; full_line = Some (line_of_byte y) })) here
      (contradicted-by profile es p (record { crash = n; full_line = Some (line_of_byte y) }) (OrderedFail x y n) found refl) in
      absurd (not_holds-failed profile es p (record { crash = n; full_line = Some (line_of_byte y) }) (OrderedFail x y n) found refl
      (let early = contradicted.0 in let within = (place-within es p (Ordered a b) here).1 in omega arith)
      (subst (EventHolds es p) (sym here) holds))
  kept-by_row _ kind found holds = absurd (omega (arith, kind))

  not_refuted : OrderedHolds es p a b → IsNotFailed (rows_of profile es) p
  not_refuted holds = kept-by_row (ordered_finding profile es p a b) (ordered-kind profile es p a b) (ordered-row profile es p a b here) holds

  unchecked-ordered : (v w : Bool) (c u : Option (ℕ × ℕ)) → OrderedEmpty ≡ (if v then OrderedEmpty else if w then OrderedEmpty else finding_of_pairs es p c u) →
      (v ≡ true) ⊎ (w ≡ true)
  unchecked-ordered v w c u is = grind arith

  -- the row is what the assertion finds
  own-ordered : (f : Finding) → kind_of f ≡ 2 → Contains (rows_of profile es) (row_at p f) → f ≡ ordered_finding profile es p a b
  own-ordered f kind found =
      let own = ordered-from_rows profile es p f found kind in
      let same : Some (Ordered own.0 own.1) ≡ Some (Ordered a b) = sym own.2 ∙ here in
      let one : own.0 ≡ a = cc in
      let other : own.1 ≡ b = cc in
      own.3 ∙ ap (λ s. ordered_finding profile es p s own.1) one ∙ ap (ordered_finding profile es p a) other

  none-checked : (s : Extent) → is_none (first_byte (is_checked es p) s) ≡ true → (x : ℕ) → covers_byte s x ≡ true → is_checked es p x ≡ false
  none-checked s none x covered =
      let bounds = covers-bounds s x covered in
      none-passes (is_checked es p) s.first s.size (none-from (first_byte (is_checked es p) s) none) x bounds.0 bounds.1

  holds-unchecked : Contains (rows_of profile es) (row_at p OrderedEmpty) → OrderedHolds es p a b
  unfolding ordered_finding
  holds-unchecked found n within image allowed x y in_a in_b x_checked y_checked shown =
      let is = own-ordered OrderedEmpty refl found in
      elim (unchecked-ordered (is_none (first_byte (is_checked es p) a)) (is_none (first_byte (is_checked es p) b))
      (least_pair (is_certified profile es p) a b) (least_pair (is_unordered profile es p) a b) is) [
        | inl none ↦ let bad : true ≡ false = sym x_checked ∙ none-checked a none x in_a in cc
        | inr none ↦ let bad : true ≡ false = sym y_checked ∙ none-checked b none y in_b in cc
      ]

  holds-kept : Contains (rows_of profile es) (row_at p OrderedPass) → OrderedHolds es p a b
  holds-kept found =
      let own = orders_hold profile es p found in
      let same : Some (Ordered own.0 own.1) ≡ Some (Ordered a b) = sym own.2 ∙ here in
      let one : own.0 ≡ a = cc in
      let other : own.1 ≡ b = cc in
      subst (OrderedHolds es p a) other (subst (λ s. OrderedHolds es p s own.1) one own.3)

  same_line-pairs : (v w : Bool) (c u : Option (ℕ × ℕ)) (x y : ℕ) →
      OrderedSameLine x y ≡ (if v then OrderedEmpty else if w then OrderedEmpty else finding_of_pairs es p c u) → u ≡ Some (x, y)
  same_line-pairs v w c u x y is = grind arith

  same_line-none : (v w : Bool) (c u : Option (ℕ × ℕ)) (x y : ℕ) →
      OrderedSameLine x y ≡ (if v then OrderedEmpty else if w then OrderedEmpty else finding_of_pairs es p c u) → c ≡ None
  same_line-none v w c u x y is = grind arith

  -- no pair of a SAMELINE row is certified
  none-certified : (x y : ℕ) → Contains (rows_of profile es) (row_at p (OrderedSameLine x y)) →
      (k l : ℕ) → covers_byte a k ≡ true → covers_byte b l ≡ true → is_certified profile es p k l ≡ false
  unfolding ordered_finding
  none-certified x y found k l in_a in_b =
      let none = same_line-none (is_none (first_byte (is_checked es p) a)) (is_none (first_byte (is_checked es p) b))
      (least_pair (is_certified profile es p) a b) (least_pair (is_unordered profile es p) a b) x y (own-ordered (OrderedSameLine x y) refl found) in
      unpaired (is_certified profile es p) a b none k l in_a in_b

  -- over spans apart, no pair of a SAMELINE row is one byte with itself
  not_one_byte : AreApart es p a b → (x y : ℕ) → Contains (rows_of profile es) (row_at p (OrderedSameLine x y)) →
      ((k l : ℕ) → covers_byte a k ≡ true → covers_byte b l ≡ true → is_unordered profile es p k l ≡ true → k ≡ l) → ⊥
  unfolding ordered_finding
  not_one_byte apart x y found one_byte =
      let is = own-ordered (OrderedSameLine x y) refl found in
      let unordered = same_line-pairs (is_none (first_byte (is_checked es p) a)) (is_none (first_byte (is_checked es p) b))
      (least_pair (is_certified profile es p) a b) (least_pair (is_unordered profile es p) a b) x y is in
      let pair = pair-from (is_unordered profile es p) a b x y unordered in
      let same = one_byte x y pair.one pair.other pair.passes in
      let shut = apart x pair.one (subst (λ z. covers_byte b z ≡ true) (sym same) pair.other) in
      let checked = (checked-parts profile es p x y pair.passes).0 in
      let bad : true ≡ false = sym checked ∙ shut in cc

pub holds-by_row : (profile : Profile) (es : List Event) (p : ℕ) (a b : Extent) → event_at es p ≡ Some (Ordered a b) → IsPassOrEmpty (rows_of profile es) p → OrderedHolds es p a b
holds-by_row profile es p a b here row = elim row [ inl passed ↦ holds-kept profile es p a b here passed | inr empty ↦ holds-unchecked profile es p a b here empty ]

order-exact : (profile : Profile) (es : List Event) (p : ℕ) (a b : Extent) → event_at es p ≡ Some (Ordered a b) → OrderIsExact profile es (rows_of profile es) p a b
order-exact One es p a b here = (holds-by_row One es p a b here, not_refuted One es p a b here)
order-exact Two es p a b here = (
  holds-by_row Two es p a b here,
  holds-by_profile_two es p a b,
  λ apart. (
    λ holds. elim (not_refuted Two es p a b here holds) [
      | inl kept ↦ kept
      | inr (x, y, found) ↦ absurd (not_one_byte Two es p a b here apart x y found ((holds-by_profile_two es p a b).0 holds))
    ],
    holds-by_row Two es p a b here,
  ),
)

-- ---- scopes

module _ (profile : Profile) (es : List Event) (p : ℕ) (here : event_at es p ≡ Some CheckEnd) where
  closed-by_row : (o : Option ℕ) → Contains (rows_of profile es) (row_at p (scope_passes_unless o)) → ScopeHolds es p → Contains (rows_of profile es) (row_at p CheckPass)
  closed-by_row None found holds = found
  closed-by_row (Some b) found holds =
      absurd (not_holds-failed profile es p (record { crash = p; full_line = None }) (CheckFail b) found refl (place-within es p CheckEnd here).1
      (subst (EventHolds es p) (sym here) holds))

  closes : in_scope es (p - 1) ≡ true → in_transaction es (p - 1) ≡ false → check_finding es (p - 1) ≡ scope_passes_unless (first_from (is_left_open es (p - 1)) 0 ADDRESS_LIMIT)
  unfolding check_finding
  closes inside outside = grind arith

  scope-exact : in_scope es (p - 1) ≡ true → in_transaction es (p - 1) ≡ false → ScopeHolds es p ↔ Contains (rows_of profile es) (row_at p CheckPass)
  scope-exact inside outside = (
    λ holds. closed-by_row (first_from (is_left_open es (p - 1)) 0 ADDRESS_LIMIT)
        (subst (λ f. Contains (rows_of profile es) (row_at p f)) (closes inside outside) (check-row profile es p here)) holds,
    λ found. (scopes_hold profile es p found).1,
  )

pub rows_exact : (profile : Profile) (es : List Event) → IsExact profile es (rows_of profile es)
rows_exact profile es = record {
  persists = persist-exact profile es;
  orders = order-exact profile es;
  scopes = scope-exact profile es;
}

-- ---- pairs of one store

-- an unordered pair that is not certified was last written by one store
one_store : (es : List Event) (p k l : ℕ) → is_unordered Two es p k l ≡ true → is_certified Two es p k l ≡ false → last_store es p k ≡ last_store es p l
unfolding is_unordered is_certified is_ordered is_stored_before
one_store es p k l unordered uncertified = grind arith

pub same_lines : (profile : Profile) (es : List Event) → SameLinesAreOneStore profile es (rows_of profile es)
same_lines One es two p x y a b here found k l in_a in_b unordered = let bad : One ≡ Two = two in cc
same_lines Two es two p x y a b here found k l in_a in_b unordered = one_store es p k l unordered (none-certified Two es p a b here x y found k l in_a in_b)
