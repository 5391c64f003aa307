-- Of which events the findings among the rows are.
use Rattle.std.proofs.{Common.{◌≡◌, ℕ, zero, suc, ◌-◌, ◌<◌, List, map, length, refl, sym, arith, inl, inr, ◌⊎◌, Option, Some, None, Contains}, lemmas.List.Elements.{Contains-append_cases}}
use Rattle.pmf_event.specs.{declared.event.Event.{Event}, declared.event.Event.TheVariants.{Store, Flush, Persist, Ordered, TxAdd, TxEnd, CheckStart, CheckEnd}, declared.finding.Finding.{Finding}, declared.finding.Finding.TheVariants.{PersistPass, PersistFail, PersistEmpty, OrderedPass, OrderedFail, OrderedSameLine, OrderedEmpty, CheckPass, CheckFail, TxStillOpen, Unopened}, declared.profile.Profile.{Profile}, Span.{Extent}, Store.{event_at}, Persist.{persist_finding}, Order.{ordered_finding}, FlushWarnings.{if_any, flush_findings}, Transactions.{store_finding, add_finding, end_finding, start_finding, check_finding, close_finding}}
use Rattle.pmf_verdict.{specs.Rows.{row_at, findings_of, rows_upto, rows_at_end, rows_of}, proofs.RowsLemmas.{finding-from_rows, place-of_row}}

-- of which events a finding is: 1 of persist assertions, 2 of order assertions, 3 of the ends of scopes, 0 of
-- others
abbrev pub kind_of : Finding → ℕ
kind_of PersistPass = 1
kind_of (PersistFail byte) = 1
kind_of PersistEmpty = 1
kind_of OrderedPass = 2
kind_of (OrderedFail byte after crash) = 2
kind_of (OrderedSameLine byte after) = 2
kind_of OrderedEmpty = 2
kind_of CheckPass = 3
kind_of (CheckFail byte) = 3
kind_of (TxStillOpen depth) = 3
kind_of Unopened = 3
kind_of _ = 0

-- the kind of a finding, and 0 without one
abbrev kind_if_any : Option Finding → ℕ
kind_if_any None = 0
kind_if_any (Some f) = kind_of f

-- ---- findings of other events

other-within : (o : Option Finding) (f : Finding) → kind_if_any o ≡ 0 → Contains (if_any o) f → kind_of f ≡ 0
other-within o f never found = grind arith

other-store : (es : List Event) (p : ℕ) (s : Extent) → kind_if_any (store_finding es p s) ≡ 0
unfolding store_finding
other-store es p s = grind arith

other-add : (es : List Event) (p : ℕ) (s : Extent) → kind_if_any (add_finding es p s) ≡ 0
unfolding add_finding
other-add es p s = grind arith

other-end : (es : List Event) (p : ℕ) → kind_if_any (end_finding es p) ≡ 0
unfolding end_finding
other-end es p = grind arith

other-start : (es : List Event) (p : ℕ) → kind_if_any (start_finding es p) ≡ 0
unfolding start_finding
other-start es p = grind arith

other-close : (es : List Event) (p : ℕ) → kind_if_any (close_finding es p) ≡ 0
unfolding close_finding
other-close es p = grind arith

other-flush : (es : List Event) (p : ℕ) (s : Extent) (f : Finding) → Contains (flush_findings es p s) f → kind_of f ≡ 0
unfolding flush_findings
other-flush es p s f found = grind arith

-- ---- findings of assertions

pub persist-kind : (es : List Event) (p : ℕ) (s : Extent) → kind_of (persist_finding es p s) ≡ 1
unfolding persist_finding
persist-kind es p s = grind arith

pub ordered-kind : (profile : Profile) (es : List Event) (p : ℕ) (a b : Extent) → kind_of (ordered_finding profile es p a b) ≡ 2
unfolding ordered_finding
ordered-kind profile es p a b = grind arith

pub check-kind : (es : List Event) (p : ℕ) → kind_of (check_finding es p) ≡ 3
unfolding check_finding
check-kind es p = grind arith

-- ---- a finding among those of an event

-- the finding is that of the assertion at the place
abbrev Judged : Profile → List Event → ℕ → Option Event → Finding → Type 0
Judged profile es p o f =
    ((s : Extent) × (o ≡ Some (Persist s)) × (f ≡ persist_finding es p s))
    ⊎ (((a : Extent) × (b : Extent) × (o ≡ Some (Ordered a b)) × (f ≡ ordered_finding profile es p a b))
    ⊎ ((o ≡ Some CheckEnd) × (f ≡ check_finding es (p - 1))))

judged-from_findings : (profile : Profile) (es : List Event) (p : ℕ) (o : Option Event) (f : Finding) → 0 < kind_of f →
    Contains (findings_of profile es p o) f → Judged profile es p o f
unfolding findings_of
judged-from_findings profile es p (Some (Persist s)) f some (zero, within, is) = inl (s, refl, sym is)
judged-from_findings profile es p (Some (Persist s)) f some (suc k, within, is) = absurd (omega arith)
judged-from_findings profile es p (Some (Ordered a b)) f some (zero, within, is) = inr (inl (a, b, refl, sym is))
judged-from_findings profile es p (Some (Ordered a b)) f some (suc k, within, is) = absurd (omega arith)
judged-from_findings profile es p (Some CheckEnd) f some (zero, within, is) = inr (inr (refl, sym is))
judged-from_findings profile es p (Some CheckEnd) f some (suc k, within, is) = absurd (omega arith)
judged-from_findings profile es p (Some (Flush s)) f some found = let none = other-flush es (p - 1) s f found in absurd (omega arith)
judged-from_findings profile es p (Some (Store s)) f some found = let none = other-within (store_finding es (p - 1) s) f (other-store es (p - 1) s) found in absurd (omega arith)
judged-from_findings profile es p (Some (TxAdd s)) f some found = let none = other-within (add_finding es (p - 1) s) f (other-add es (p - 1) s) found in absurd (omega arith)
judged-from_findings profile es p (Some TxEnd) f some found = let none = other-within (end_finding es (p - 1)) f (other-end es (p - 1)) found in absurd (omega arith)
judged-from_findings profile es p (Some CheckStart) f some found = let none = other-within (start_finding es (p - 1)) f (other-start es (p - 1)) found in absurd (omega arith)
judged-from_findings profile es p _ f some (k, within, is) = absurd (omega arith)

-- ---- a finding among the rows

-- no assertion's finding is a row of the section's end
judged-within : (profile : Profile) (es : List Event) (p : ℕ) (f : Finding) → 0 < kind_of f → Contains (rows_of profile es) (row_at p f) →
    Contains (findings_of profile es p (event_at es p)) f
unfolding rows_of rows_at_end
judged-within profile es p f some found =
    elim (Contains-append_cases (rows_upto profile es (length es)) (map (row_at (suc (length es))) (if_any (close_finding es (length es)))) (row_at p f) found) [
      | inl within ↦ finding-from_rows profile es (length es) p f within
      | inr end ↦
          let none = other-within (close_finding es (length es)) f (other-close es (length es)) (place-of_row (suc (length es)) p f (if_any (close_finding es (length es))) end).1 in
          absurd (omega arith)
    ]

module _ (profile : Profile) (es : List Event) (p : ℕ) (f : Finding) (found : Contains (rows_of profile es) (row_at p f)) where
  judged : 0 < kind_of f → Judged profile es p (event_at es p) f
  judged some = judged-from_findings profile es p (event_at es p) f some (judged-within profile es p f some found)

  -- a row of a persist assertion stands at one, and says what it finds
  pub persist-from_rows : kind_of f ≡ 1 → (s : Extent) × (event_at es p ≡ Some (Persist s)) × (f ≡ persist_finding es p s)
  persist-from_rows kind = let own = judged (omega arith) in grind (arith, ordered-kind, check-kind)

  -- the same of an order assertion
  pub ordered-from_rows : kind_of f ≡ 2 → (a : Extent) × (b : Extent) × (event_at es p ≡ Some (Ordered a b)) × (f ≡ ordered_finding profile es p a b)
  ordered-from_rows kind = let own = judged (omega arith) in grind (arith, persist-kind, check-kind)

  -- and of the end of a scope
  pub check-from_rows : kind_of f ≡ 3 → (event_at es p ≡ Some CheckEnd) × (f ≡ check_finding es (p - 1))
  check-from_rows kind = let own = judged (omega arith) in grind (arith, persist-kind, ordered-kind)
