-- Where no row counts as FAIL, all that is asserted holds; where none counts as EMPTY, each assertion had something to check.
use Rattle.std.proofs.{Common.{◌≡◌, ℕ, suc, ◌-◌, Bool, true, false, not, ◌&&◌, if◌then◌else◌, List, map, length, refl, sym, ◌∙◌, ap, subst, arith, inl, inr, ◌⊎◌, Option, Some, None, Contains, is_none}, lemmas.List.Elements.{Contains-append_right}, lemmas.Bool.{and_from, false_from_ne_true, not-false}}
use Rattle.pmf_event.{specs.declared.event.Event.{Event}, specs.declared.event.Event.TheVariants.{Store, Persist, Ordered, CheckEnd}, specs.declared.finding.Finding.{Finding}, specs.declared.finding.Finding.TheVariants.{PersistPass, PersistFail, PersistEmpty, OrderedPass, OrderedFail, OrderedSameLine, OrderedEmpty, NoBackup, CheckPass, CheckFail, TxStillOpen, Unopened, Unclosed}, specs.declared.profile.Profile.{Profile}, specs.declared.span.TheConstants.{ADDRESS_LIMIT}, specs.Span.{Extent, covers_byte}, specs.Store.{event_at}, specs.Ranges.{first_from, first_byte}, specs.Exclusion.{is_included}, specs.Persist.{is_checked, is_exposed, pass_unless, persist_finding}, specs.FlushWarnings.{if_any}, specs.Order.{is_unordered, is_certified, least_pair, finding_of_pairs, ordered_finding}, specs.Transactions.{in_transaction, is_backed, in_scope, scope_at, depth_at, lacks_backup, nobackup_with, store_finding, is_left_open, scope_passes_unless, check_finding, close_finding}, proofs.RangeLemmas.{some-or-none, none-passes, first-passes}, proofs.LineLemmas.{covers-bounds, bounds-cover}}
use Rattle.pmf_image.specs.Holds.{PersistHolds, OrderedHolds, EventHolds}
use Rattle.pmf_verdict.{specs.declared.outcome.Outcome.TheVariants.{Fail, Empty}, specs.Kept.{IsKept, HasChecked, IsFilled, HasNone, IsTold}, specs.Rows.{findings_of, row_at, rows_upto, rows_at_end, rows_of}, proofs.RowsLemmas.{place-within}, proofs.KindLemmas.{kind_of, persist-kind, ordered-kind, check-kind}, proofs.SoundLemmas.{scopes_hold}, proofs.HoldingLemmas.{row-of, persist-row, ordered-row, check-row, holds-by_row, rows_exact}}

-- ---- what each finding tells

scope-parts : (u v : Bool) (d : ℕ) (o : Option ℕ) → (if not u then Unopened else if v then TxStillOpen d else scope_passes_unless o) ≡ CheckPass → (u ≡ true) × (v ≡ false)
scope-parts false v d o is = let bad : Unopened ≡ CheckPass = is in cc
scope-parts true true d o is = let bad : TxStillOpen d ≡ CheckPass = is in cc
scope-parts true false d o is = (refl, refl)

pub persist-empty : (es : List Event) (p : ℕ) (s : Extent) → first_byte (is_checked es p) s ≡ None → persist_finding es p s ≡ PersistEmpty
unfolding persist_finding
persist-empty es p s none = ap (λ (o : Option ℕ). if is_none o then PersistEmpty else pass_unless (first_byte (is_exposed es p) s)) none

pub ordered-empty : (profile : Profile) (es : List Event) (p : ℕ) (a b : Extent) → (first_byte (is_checked es p) a ≡ None) ⊎ (first_byte (is_checked es p) b ≡ None) →
    ordered_finding profile es p a b ≡ OrderedEmpty
unfolding ordered_finding
ordered-empty profile es p a b (inl none) = ap (λ (o : Option ℕ). if is_none o then OrderedEmpty else (if is_none (first_byte (is_checked es p) b) then OrderedEmpty else finding_of_pairs es p (least_pair (is_certified profile es p) a b) (least_pair (is_unordered profile es p) a b))) none
ordered-empty profile es p a b (inr none) =
    ap (λ (o : Option ℕ). if is_none (first_byte (is_checked es p) a) then OrderedEmpty else (if is_none o then OrderedEmpty else finding_of_pairs es p (least_pair (is_certified profile es p) a b) (least_pair (is_unordered profile es p) a b))) none
    ∙ elim (is_none (first_byte (is_checked es p) a)) as (λ v. (if v then OrderedEmpty else OrderedEmpty) ≡ OrderedEmpty) [ true ↦ refl | false ↦ refl ]

unclosed-here : (es : List Event) (p : ℕ) → in_scope es p ≡ true → close_finding es p ≡ Some (Unclosed (scope_at es p))
unfolding close_finding
unclosed-here es p is = ap (λ v. if v then Some (Unclosed (scope_at es p)) else None) is

unbacked-here : (es : List Event) (p b : ℕ) (s : Extent) → in_transaction es p ≡ true → in_scope es p ≡ true → first_byte (lacks_backup es p) s ≡ Some b →
    store_finding es p s ≡ Some (NoBackup b)
unfolding store_finding
unbacked-here es p b s inside scoped is =
    ap (λ v. if v then nobackup_with (first_byte (lacks_backup es p) s) else None) (and_from _ _ inside scoped) ∙ ap nobackup_with is

backed-from : (es : List Event) (p b : ℕ) → lacks_backup es p b ≡ false → is_included es (suc p) b ≡ true → is_backed es p b ≡ true
unfolding lacks_backup
backed-from es p b fine included = not-false (is_backed es p b) (ap (λ v. v && not (is_backed es p b)) (sym included) ∙ fine)

-- ---- no row counts as FAIL

module _ (profile : Profile) (es : List Event) (none : HasNone Fail (rows_of profile es)) where
  kept-persist : (p : ℕ) (s : Extent) → event_at es p ≡ Some (Persist s) → (f : Finding) → kind_of f ≡ 1 → Contains (rows_of profile es) (row_at p f) → PersistHolds es p s
  kept-persist p s here PersistPass kind found = ((rows_exact profile es).persists p s here).1 (inl found)
  kept-persist p s here PersistEmpty kind found = ((rows_exact profile es).persists p s here).1 (inr found)
  kept-persist p s here (PersistFail b) kind found = absurd (none (row_at p (PersistFail b)) found refl)
  kept-persist p s here _ kind found = absurd (omega (arith, kind))

  kept-order : (p : ℕ) (a b : Extent) → event_at es p ≡ Some (Ordered a b) → (f : Finding) → kind_of f ≡ 2 → Contains (rows_of profile es) (row_at p f) → OrderedHolds es p a b
  kept-order p a b here OrderedPass kind found = holds-by_row profile es p a b here (inl found)
  kept-order p a b here OrderedEmpty kind found = holds-by_row profile es p a b here (inr found)
  kept-order p a b here (OrderedFail x y n) kind found = absurd (none (row_at p (OrderedFail x y n)) found refl)
  kept-order p a b here (OrderedSameLine x y) kind found = absurd (none (row_at p (OrderedSameLine x y)) found refl)
  kept-order p a b here _ kind found = absurd (omega (arith, kind))

  passed-scope : (p : ℕ) (f : Finding) → kind_of f ≡ 3 → Contains (rows_of profile es) (row_at p f) → f ≡ CheckPass
  passed-scope p CheckPass kind found = refl
  passed-scope p (CheckFail b) kind found = absurd (none (row_at p (CheckFail b)) found refl)
  passed-scope p (TxStillOpen d) kind found = absurd (none (row_at p (TxStillOpen d)) found refl)
  passed-scope p Unopened kind found = absurd (none (row_at p Unopened) found refl)
  passed-scope p _ kind found = absurd (omega (arith, kind))

  scope-passes : (p : ℕ) → event_at es p ≡ Some CheckEnd → check_finding es (p - 1) ≡ CheckPass
  scope-passes p here = passed-scope p (check_finding es (p - 1)) (check-kind es (p - 1)) (check-row profile es p here)

  kept-event : (p : ℕ) (o : Option Event) → event_at es p ≡ o → EventHolds es p o
  kept-event p (Some (Persist s)) here = kept-persist p s here (persist_finding es p s) (persist-kind es p s) (persist-row profile es p s here)
  kept-event p (Some (Ordered a b)) here = kept-order p a b here (ordered_finding profile es p a b) (ordered-kind profile es p a b) (ordered-row profile es p a b here)
  kept-event p (Some CheckEnd) here = (scopes_hold profile es p (subst (λ f. Contains (rows_of profile es) (row_at p f)) (scope-passes p here) (check-row profile es p here))).1
  kept-event p _ here = search

  kept-closed : (p : ℕ) → event_at es p ≡ Some CheckEnd → (in_scope es (p - 1) ≡ true) × (in_transaction es (p - 1) ≡ false)
  unfolding check_finding
  kept-closed p here = scope-parts (in_scope es (p - 1)) (in_transaction es (p - 1)) (depth_at es (p - 1)) (first_from (is_left_open es (p - 1)) 0 ADDRESS_LIMIT) (scope-passes p here)

  kept-backed : (p b : ℕ) (s : Extent) → event_at es p ≡ Some (Store s) → in_transaction es (p - 1) ≡ true → in_scope es (p - 1) ≡ true →
      covers_byte s b ≡ true → is_included es p b ≡ true → is_backed es (p - 1) b ≡ true
  unfolding findings_of
  kept-backed p b s here inside scoped covered included = elim (some-or-none (first_byte (lacks_backup es (p - 1)) s)) [
    | inl found ↦ absurd (none (row_at p (NoBackup found.0)) (row-of profile es p (Store s) (NoBackup found.0) here (ap if_any (unbacked-here es (p - 1) found.0 s inside scoped found.1))) refl)
    | inr fine ↦
        let bounds = covers-bounds s b covered in
        let some = (place-within es p (Store s) here).0 in
        let behind : p ≡ suc (p - 1) = omega arith in
        backed-from es (p - 1) b (none-passes (lacks_backup es (p - 1)) s.first s.size fine b bounds.0 bounds.1) (subst (λ q. is_included es q b ≡ true) behind included)
  ]

  kept-ended : in_scope es (length es) ≡ false
  unfolding rows_of rows_at_end
  kept-ended = false_from_ne_true _ (λ is.
      let n = length es in
      let own : map (row_at (suc n)) (if_any (close_finding es n)) ≡ map (row_at (suc n)) (if_any (Some (Unclosed (scope_at es n)))) = ap (λ (o : Option Finding). map (row_at (suc n)) (if_any o)) (unclosed-here es n is) in
      let row = row_at (suc n) (Unclosed (scope_at es n)) in
      none row (Contains-append_right (rows_upto profile es n) _ row (subst (λ rows. Contains rows row) (sym own) (0, omega arith, refl))) refl)

  kept : IsKept es
  kept = record { holds = λ p. kept-event p (event_at es p) refl; closed = kept-closed; backed = kept-backed; ended = kept-ended }

-- ---- no row counts as EMPTY

module _ (profile : Profile) (es : List Event) (none : HasNone Empty (rows_of profile es)) where
  checked-unless : (p : ℕ) (s : Extent) → (first_byte (is_checked es p) s ≡ None → ⊥) → HasChecked es p s
  checked-unless p s some = elim (some-or-none (first_byte (is_checked es p) s)) [
    | inl found ↦
        let first = first-passes (is_checked es p) s.first s.size found.0 found.1 in
        (found.0, bounds-cover s found.0 first.from first.within, first.passes)
    | inr empty ↦ absurd (some empty)
  ]

  filled-persist : (p : ℕ) (s : Extent) → event_at es p ≡ Some (Persist s) → HasChecked es p s
  filled-persist p s here = checked-unless p s (λ empty.
      none (row_at p PersistEmpty) (subst (λ f. Contains (rows_of profile es) (row_at p f)) (persist-empty es p s empty) (persist-row profile es p s here)) refl)

  filled-order : (p : ℕ) (a b : Extent) → event_at es p ≡ Some (Ordered a b) → (first_byte (is_checked es p) a ≡ None) ⊎ (first_byte (is_checked es p) b ≡ None) → ⊥
  filled-order p a b here empty =
      none (row_at p OrderedEmpty) (subst (λ f. Contains (rows_of profile es) (row_at p f)) (ordered-empty profile es p a b empty) (ordered-row profile es p a b here)) refl

  filled : IsFilled es
  filled = record {
    persists = filled-persist;
    orders = λ p a b here. (checked-unless p a (λ empty. filled-order p a b here (inl empty)), checked-unless p b (λ empty. filled-order p a b here (inr empty)));
  }

pub rows_told : (profile : Profile) (es : List Event) → IsTold es (rows_of profile es)
rows_told profile es = record { kept = kept profile es; filled = filled profile es }
