-- The rows so far, and where a row comes from.
use Rattle.std.proofs.{Common.{◌≡◌, ℕ, zero, suc, ◌-◌, ◌<◌, ◌≤◌, List, [], ◌∷◌, ◌++◌, map, length, refl, sym, ◌∙◌, ap, subst, arith, inl, inr, Option, Some, None, Contains, append_assoc}, lemmas.List.{map-append}, lemmas.List.Elements.{Contains-append_cases}, lemmas.Option.{slice_get_within}}
use Rattle.pmf_event.specs.{declared.event.Event.{Event}, declared.event.Event.TheVariants.{Flush}, declared.finding.Finding.{Finding}, declared.profile.Profile.{Profile}, declared.row.Row.{Row}, Span.{Extent}, Store.{event_at}, FlushWarnings.{if_any, flush_findings}}
use Rattle.pmf_verdict.specs.Rows.{findings_of, row_at, rows_upto}

rows_upto-more : (profile : Profile) (es : List Event) (p : ℕ) →
    rows_upto profile es (suc p) ≡ rows_upto profile es p ++ map (row_at (suc p)) (findings_of profile es (suc p) (event_at es (suc p)))
unfolding rows_upto
rows_upto-more profile es p = refl

pub rows_upto-none : (profile : Profile) (es : List Event) → rows_upto profile es 0 ≡ []
unfolding rows_upto
rows_upto-none profile es = refl

-- the rows after one more event, by its findings
pub rows_upto-next : (profile : Profile) (es : List Event) (p : ℕ) (e : Event) (fs : List Finding) → event_at es (suc p) ≡ Some e → findings_of profile es (suc p) (Some e) ≡ fs →
    rows_upto profile es (suc p) ≡ rows_upto profile es p ++ map (row_at (suc p)) fs
rows_upto-next profile es p e fs here found = grind (arith, rows_upto-more)

-- the rows of a write-back, one finding after the other
pub rows_upto-flush : (profile : Profile) (es : List Event) (p : ℕ) (s : Extent) (one other : Option Finding) → event_at es (suc p) ≡ Some (Flush s) →
    flush_findings es p s ≡ if_any one ++ if_any other →
    rows_upto profile es (suc p) ≡ (rows_upto profile es p ++ map (row_at (suc p)) (if_any one)) ++ map (row_at (suc p)) (if_any other)
unfolding findings_of
rows_upto-flush profile es p s one other here found =
    let before : suc p - 1 ≡ p = omega arith in
    rows_upto-next profile es p (Flush s) (if_any one ++ if_any other) here (ap (λ q. flush_findings es q s) before ∙ found)
    ∙ ap (λ rows. rows_upto profile es p ++ rows) (map-append (row_at (suc p)) (if_any one) (if_any other))
    ∙ sym (append_assoc (rows_upto profile es p) (map (row_at (suc p)) (if_any one)) (map (row_at (suc p)) (if_any other)))

pub not_in_empty : {A : Type 0} (x : A) → Contains [] x → ⊥
not_in_empty x found = let bad = found.1 in omega arith

-- a row among those of one place is of that place, and says one of its findings
pub place-of_row : (q p : ℕ) (f : Finding) (fs : List Finding) → Contains (map (row_at q) fs) (row_at p f) → (q ≡ p) × Contains fs f
place-of_row q p f [] found = absurd (not_in_empty (row_at p f) found)
place-of_row q p f (x ∷ fs) (zero, within, is) = (ap (λ (r : Row). r.place) is, (0, omega arith, ap (λ (r : Row). r.finding) is))
place-of_row q p f (x ∷ fs) (suc k, within, is) =
    let later = place-of_row q p f fs (k, omega arith, is) in (later.0, (suc later.1.0, (let bound = later.1.1 in omega arith), later.1.2))

-- a row says a finding of its place
pub finding-from_rows : (profile : Profile) (es : List Event) (n p : ℕ) (f : Finding) → Contains (rows_upto profile es n) (row_at p f) → Contains (findings_of profile es p (event_at es p)) f
unfolding rows_upto
finding-from_rows profile es zero p f found = absurd (not_in_empty (row_at p f) found)
finding-from_rows profile es (suc n) p f found =
    elim (Contains-append_cases (rows_upto profile es n) (map (row_at (suc n)) (findings_of profile es (suc n) (event_at es (suc n)))) (row_at p f) found) [
      | inl before ↦ finding-from_rows profile es n p f before
      | inr here ↦
          let own = place-of_row (suc n) p f (findings_of profile es (suc n) (event_at es (suc n))) here in
          subst (λ q. Contains (findings_of profile es q (event_at es q)) f) own.0 own.1
    ]

-- an event stands at a place of the list
pub place-within : (es : List Event) (p : ℕ) (e : Event) → event_at es p ≡ Some e → (0 < p) × (p ≤ length es)
unfolding event_at
place-within es zero e here = let bad : None ≡ Some e = here in cc
place-within es (suc p) e here = let within = slice_get_within es p e here in (omega arith, omega arith)
