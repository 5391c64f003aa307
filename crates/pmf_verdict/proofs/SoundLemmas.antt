-- What a PASS row says of its checked bytes, and that the assertion holds.
use Rattle.std.proofs.Common.{◌≡◌, ℕ, zero, suc, ◌-◌, ◌<◌, Bool, true, false, not, ◌&&◌, if◌then◌else◌, List, refl, sym, ◌∙◌, ap, arith, subst, Option, Some, None, is_none, lt-ltb}
use Rattle.pmf_event.{specs.declared.event.Event.{Event}, specs.declared.event.Event.TheVariants.{CheckEnd}, specs.declared.finding.Finding.TheVariants.{PersistPass, PersistEmpty, OrderedPass, OrderedEmpty, CheckPass, TxStillOpen, Unopened}, specs.declared.profile.Profile.{Profile}, specs.declared.span.TheConstants.{ADDRESS_LIMIT}, specs.Span.{Extent, covers_byte}, specs.Store.{event_at}, specs.Interval.{interval_at, is_open}, specs.Exclusion.{is_included}, specs.Ranges.{first_from, first_byte}, specs.Persist.{is_checked, is_exposed, pass_unless, persist_finding}, specs.Order.{is_ordered, is_unordered, is_certified, least_pair, finding_of_pairs, ordered_finding}, specs.Transactions.{in_transaction, depth_at, in_scope, is_scoped, is_left_open, scope_passes_unless, check_finding}, proofs.RangeLemmas.{none-passes}, proofs.LeastPairLemmas.{unpaired}, proofs.LineLemmas.{covers-bounds, bounds-cover}, proofs.TransactionLemmas.{scoped-written, left_open-exposed}}
use Rattle.pmf_image.{specs.Holds.{ScopeHolds}, proofs.ImageLemmas.{holds-where_closed}, proofs.OrderedLemmas.{holds-where_ordered}}
use Rattle.pmf_verdict.{specs.Rows.{rows_of}, specs.Sound.{PersistsHold, OrdersHold, ScopesHold}, proofs.KindLemmas.{persist-from_rows, ordered-from_rows, check-from_rows}}

-- ---- persist assertions

-- no checked byte of an assertion that passes has an open interval
none-exposed : (v : Bool) (o : Option ℕ) → (if v then PersistEmpty else pass_unless o) ≡ PersistPass → o ≡ None
none-exposed v o is = grind arith

closed-from_exposed : (es : List Event) (p b : ℕ) → is_exposed es p b ≡ false → is_checked es p b ≡ true → is_open (interval_at es p b) ≡ false
unfolding is_exposed
closed-from_exposed es p b shut checked = ap (λ v. v && is_open (interval_at es p b)) (sym checked) ∙ shut

pub pass-closed : (es : List Event) (p : ℕ) (s : Extent) → persist_finding es p s ≡ PersistPass →
    (b : ℕ) → covers_byte s b ≡ true → is_checked es p b ≡ true → is_open (interval_at es p b) ≡ false
unfolding persist_finding
pass-closed es p s passed b covered checked =
    let bounds = covers-bounds s b covered in
    let none = none-exposed (is_none (first_from (is_checked es p) s.first s.size)) (first_from (is_exposed es p) s.first s.size) passed in
    closed-from_exposed es p b (none-passes (is_exposed es p) s.first s.size none b bounds.0 bounds.1) checked

pub passes_hold : (profile : Profile) (es : List Event) → PersistsHold es (rows_of profile es)
passes_hold profile es p found =
    let own = persist-from_rows profile es p PersistPass found refl in
    (own.0, own.1, holds-where_closed es p own.0 (pass-closed es p own.0 (sym own.2)))

-- ---- order assertions

none-unordered : (es : List Event) (p : ℕ) (v w : Bool) (c u : Option (ℕ × ℕ)) →
    (if v then OrderedEmpty else if w then OrderedEmpty else finding_of_pairs es p c u) ≡ OrderedPass → u ≡ None
none-unordered es p v w c u is = grind arith

ordered-from : (u v w : Bool) → u ≡ true → v ≡ true → (u && v && not w) ≡ false → w ≡ true
ordered-from u v w one other none = grind arith

pass-ordered : (profile : Profile) (es : List Event) (p : ℕ) (a b : Extent) → ordered_finding profile es p a b ≡ OrderedPass →
    (x y : ℕ) → covers_byte a x ≡ true → covers_byte b y ≡ true → is_checked es p x ≡ true → is_checked es p y ≡ true →
    is_ordered profile es p x y ≡ true
unfolding ordered_finding is_unordered
pass-ordered profile es p a b passed x y in_a in_b x_checked y_checked =
    let none = none-unordered es p (is_none (first_byte (is_checked es p) a)) (is_none (first_byte (is_checked es p) b))
    (least_pair (is_certified profile es p) a b) (least_pair (is_unordered profile es p) a b) passed in
    ordered-from (is_checked es p x) (is_checked es p y) (is_ordered profile es p x y) x_checked y_checked
    (unpaired (is_unordered profile es p) a b none x y in_a in_b)

pub orders_hold : (profile : Profile) (es : List Event) → OrdersHold es (rows_of profile es)
orders_hold profile es p found =
    let own = ordered-from_rows profile es p OrderedPass found refl in
    (own.0, own.1, own.2, holds-where_ordered profile es p own.0 own.1 (pass-ordered profile es p own.0 own.1 (sym own.3)))

-- ---- scopes

none-left_open : (u v : Bool) (d : ℕ) (o : Option ℕ) → (if u then Unopened else if v then TxStillOpen d else scope_passes_unless o) ≡ CheckPass → o ≡ None
none-left_open u v d o is = grind arith

checked-from_scoped : (es : List Event) (p b : ℕ) → is_scoped es p b ≡ true → is_included es (suc p) b ≡ true → is_checked es (suc p) b ≡ true
unfolding is_checked is_included
checked-from_scoped es p b scoped included = grind (arith, ap, suc, lt-ltb, scoped-written)

itself : ℕ → Extent
itself b = record { first = b; size = 1 }

itself-covers : (b c : ℕ) → covers_byte (itself b) c ≡ true → c ≡ b
unfolding itself
itself-covers b c covered = let bounds = covers-bounds (record { first = b; size = 1 }) c covered in omega (arith, bounds.0, bounds.1)

itself-here : (b : ℕ) → covers_byte (itself b) b ≡ true
unfolding itself
itself-here b = bounds-cover (record { first = b; size = 1 }) b (omega arith) (omega arith)

scope-closed : (es : List Event) (p : ℕ) → check_finding es p ≡ CheckPass →
    (b : ℕ) → b < ADDRESS_LIMIT → is_scoped es p b ≡ true → is_included es (suc p) b ≡ true → is_open (interval_at es (suc p) b) ≡ false
unfolding check_finding
scope-closed es p passed b below scoped included =
    let none = none-left_open (not (in_scope es p)) (in_transaction es p) (depth_at es p) (first_from (is_left_open es p) 0 ADDRESS_LIMIT) passed in
    let shut = none-passes (is_left_open es p) 0 ADDRESS_LIMIT none b (omega arith) (omega arith) in
    closed-from_exposed es (suc p) b (sym (left_open-exposed es p b scoped) ∙ shut) (checked-from_scoped es p b scoped included)

scope_holds-after : (es : List Event) (p : ℕ) → check_finding es p ≡ CheckPass → ScopeHolds es (suc p)
unfolding itself
scope_holds-after es p passed n later within image allowed b below scoped included =
    let before : suc p - 1 ≡ p = omega arith in
    let here = subst (λ q. is_scoped es q b ≡ true) before scoped in
    let shut = scope-closed es p passed b below here included in
    holds-where_closed es (suc p) (itself b)
    (λ c covered checked. subst (λ d. is_open (interval_at es (suc p) d) ≡ false) (sym (itself-covers b c covered)) shut)
    n later within image allowed b (itself-here b) (checked-from_scoped es p b here included)

scope-holds : (es : List Event) (p : ℕ) → event_at es p ≡ Some CheckEnd → check_finding es (p - 1) ≡ CheckPass → ScopeHolds es p
unfolding event_at
scope-holds es zero here passed = let bad : None ≡ Some CheckEnd = here in cc
scope-holds es (suc p) here passed = scope_holds-after es p (subst (λ q. check_finding es q ≡ CheckPass) (let before : suc p - 1 ≡ p = omega arith in before) passed)

pub scopes_hold : (profile : Profile) (es : List Event) → ScopesHold es (rows_of profile es)
scopes_hold profile es p found =
    let own = check-from_rows profile es p CheckPass found refl in
    (own.0, scope-holds es p own.0 (sym own.1))
