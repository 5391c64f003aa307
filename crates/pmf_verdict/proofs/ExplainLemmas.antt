-- Where a certificate comes from, and that its image is allowed and contradicts the assertion.
use Rattle.std.proofs.{Common.{◌≡◌, ℕ, zero, suc, ◌-◌, Bool, true, false, not, if◌then◌else◌, List, refl, sym, ◌∙◌, ap, arith, subst, Option, Some, None, is_none, Contains}, lemmas.Bool.{and_parts}}
use Rattle.pmf_event.{specs.declared.event.Event.{Event}, specs.declared.event.Event.TheVariants.{CheckEnd}, specs.declared.finding.Finding.{Finding}, specs.declared.finding.Finding.TheVariants.{PersistFail, PersistEmpty, OrderedFail, OrderedEmpty, CheckFail, TxStillOpen, Unopened}, specs.declared.profile.Profile.{Profile}, specs.declared.span.TheConstants.{ADDRESS_LIMIT}, specs.Span.{Extent}, specs.Line.{line_of_byte}, specs.Store.{event_at, last_store}, specs.Interval.{interval_at, is_open}, specs.Exclusion.{is_included}, specs.Ranges.{first_from, first_byte}, specs.Persist.{is_checked, is_exposed, pass_unless, persist_finding}, specs.Order.{is_unordered, is_certified, least_pair, finding_of_pairs, ordered_finding}, specs.Transactions.{in_transaction, depth_at, in_scope, is_scoped, is_left_open, scope_passes_unless, check_finding}, proofs.RangeLemmas.{first-passes}, proofs.LeastPairLemmas.{pair-from, certified-unordered}, proofs.LineLemmas.{bounds-cover}, proofs.TransactionLemmas.{left_open-exposed}}
use Rattle.pmf_image.{specs.declared.certificate.Certificate.{Certificate}, specs.Contradiction.{PersistContradicted, OrderedContradicted, ScopeContradicted, ContradictsEvent, Contradicts}, proofs.ImageLemmas.{last_store-bound}, proofs.FailureLemmas.{shown-where_open, pair-shown}, proofs.ExactLemmas.{checked-parts}}
use Rattle.pmf_verdict.{specs.Rows.{row_at, rows_of}, specs.Explained.{certificate_of}, proofs.KindLemmas.{persist-from_rows, ordered-from_rows, check-from_rows}}

-- ---- a failure of a persist assertion

fails-persist : (v : Bool) (o : Option ℕ) (b : ℕ) → PersistFail b ≡ (if v then PersistEmpty else pass_unless o) → o ≡ Some b
fails-persist v o b is = grind arith

exposed-checked : (es : List Event) (p b : ℕ) → is_exposed es p b ≡ true → is_checked es p b ≡ true
unfolding is_exposed
exposed-checked es p b exposed = (and_parts (is_checked es p b) (is_open (interval_at es p b)) exposed).0

persist-contradicted : (es : List Event) (p : ℕ) (s : Extent) (b : ℕ) → PersistFail b ≡ persist_finding es p s →
    PersistContradicted es p s (record { crash = p; full_line = None })
unfolding persist_finding
persist-contradicted es p s b is =
    let found = fails-persist (is_none (first_byte (is_checked es p) s)) (first_byte (is_exposed es p) s) b is in
    let first = first-passes (is_exposed es p) s.first s.size b found in
    (omega arith, b, bounds-cover s b first.from first.within, exposed-checked es p b first.passes, shown-where_open es p b first.passes)

-- ---- a failure of an order assertion

fails-ordered : (es : List Event) (p : ℕ) (v w : Bool) (c u : Option (ℕ × ℕ)) (x y n : ℕ) →
    OrderedFail x y n ≡ (if v then OrderedEmpty else if w then OrderedEmpty else finding_of_pairs es p c u) → (c ≡ Some (x, y)) × (n ≡ last_store es p y)
fails-ordered es p v w c u x y n is = grind arith

ordered-contradicted : (profile : Profile) (es : List Event) (p : ℕ) (a b : Extent) (x y n : ℕ) → OrderedFail x y n ≡ ordered_finding profile es p a b →
    OrderedContradicted es p a b (record { crash = n; full_line = Some (line_of_byte y) })
unfolding ordered_finding
ordered-contradicted profile es p a b x y n is =
    let certified = least_pair (is_certified profile es p) a b in
    let unordered = least_pair (is_unordered profile es p) a b in
    let fails = fails-ordered es p (is_none (first_byte (is_checked es p) a)) (is_none (first_byte (is_checked es p) b)) certified unordered x y n is in
    let pair = pair-from (is_certified profile es p) a b x y fails.0 in
    let checked = checked-parts profile es p x y (certified-unordered profile es p x y pair.passes) in
    let shown = pair-shown profile es p x y pair.passes in
    subst (λ k. OrderedContradicted es p a b (record { crash = k; full_line = Some (line_of_byte y) })) (sym fails.1)
    (last_store-bound es p y, x, y, pair.one, pair.other, checked.0, checked.1, shown.0, shown.1)

-- ---- a failure of a scope

fails-check : (u v : Bool) (d : ℕ) (o : Option ℕ) (b : ℕ) → CheckFail b ≡ (if not u then Unopened else if v then TxStillOpen d else scope_passes_unless o) →
    (u ≡ true) × (v ≡ false) × (o ≡ Some b)
fails-check u v d o b is = grind arith

left_open-parts : (es : List Event) (p b : ℕ) → is_left_open es p b ≡ true → (is_scoped es p b ≡ true) × (is_included es (suc p) b ≡ true)
unfolding is_left_open
left_open-parts es p b is = grind arith

scope_contradicted-after : (es : List Event) (p b : ℕ) → CheckFail b ≡ check_finding es p → ScopeContradicted es (suc p) (record { crash = suc p; full_line = None })
unfolding check_finding
scope_contradicted-after es p b is =
    let fails = fails-check (in_scope es p) (in_transaction es p) (depth_at es p) (first_from (is_left_open es p) 0 ADDRESS_LIMIT) b is in
    let first = first-passes (is_left_open es p) 0 ADDRESS_LIMIT b fails.2 in
    let parts = left_open-parts es p b first.passes in
    let exposed = sym (left_open-exposed es p b parts.0) ∙ first.passes in
    let before : suc p - 1 ≡ p = omega arith in
    let below = first.within in (
      ap (in_scope es) before ∙ fails.0,
      ap (in_transaction es) before ∙ fails.1,
      omega arith,
      b,
      omega arith,
      ap (λ q. is_scoped es q b) before ∙ parts.0,
      parts.1,
      shown-where_open es (suc p) b exposed,
    )

scope-contradicted : (es : List Event) (p b : ℕ) → event_at es p ≡ Some CheckEnd → CheckFail b ≡ check_finding es (p - 1) → ScopeContradicted es p (record { crash = p; full_line = None })
unfolding event_at
scope-contradicted es zero b here is = let bad : None ≡ Some CheckEnd = here in cc
scope-contradicted es (suc p) b here is = scope_contradicted-after es p b (is ∙ ap (check_finding es) (let before : suc p - 1 ≡ p = omega arith in before))

-- ---- failures are real

pub contradicted-by : (profile : Profile) (es : List Event) (p : ℕ) (c : Certificate) (f : Finding) → Contains (rows_of profile es) (row_at p f) → certificate_of p f ≡ Some c → Contradicts es p c
contradicted-by profile es p c (PersistFail b) found is =
    let own = persist-from_rows profile es p (PersistFail b) found refl in
    let same : record { crash = p; full_line = None } ≡ c = cc in
    subst (λ k. Contradicts es p k) same (subst (ContradictsEvent es p (record { crash = p; full_line = None })) (sym own.1) (persist-contradicted es p own.0 b own.2))
contradicted-by profile es p c (OrderedFail x y n) found is =
    let own = ordered-from_rows profile es p (OrderedFail x y n) found refl in
    let same : record { crash = n; full_line = Some (line_of_byte y) } ≡ c = cc in
    subst (λ k. Contradicts es p k) same (subst (ContradictsEvent es p (record { crash = n; full_line = Some (line_of_byte y) })) (sym own.2) (ordered-contradicted profile es p own.0 own.1 x y n own.3))
contradicted-by profile es p c (CheckFail b) found is =
    let own = check-from_rows profile es p (CheckFail b) found refl in
    let same : record { crash = p; full_line = None } ≡ c = cc in
    subst (λ k. Contradicts es p k) same (subst (ContradictsEvent es p (record { crash = p; full_line = None })) (sym own.0) (scope-contradicted es p b own.0 own.1))
contradicted-by profile es p c _ found is = let bad : None ≡ Some c = is in cc
