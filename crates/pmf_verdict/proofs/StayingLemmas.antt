-- A PASS stays as long as no byte of its span is touched.
use Rattle.std.proofs.{Common.{◌≡◌, ℕ, zero, suc, ◌+◌, ◌-◌, ◌<◌, ◌≤◌, Bool, true, false, not, ◌&&◌, ◌==◌, nat_lt, if◌then◌else◌, List, refl, sym, ◌∙◌, ap, ap₂, subst, arith, Option, Some, None, lt-ltb, ne_eqb, inl, inr}, lemmas.Bool.{cases_lt}}
use Rattle.pmf_event.{specs.declared.event.Event.{Event}, specs.declared.interval.Interval.{Interval}, specs.declared.finding.Finding.TheVariants.{PersistPass, PersistEmpty}, specs.Span.{Extent}, specs.Line.{line_of_byte}, specs.Places.{greatest, least}, specs.Store.{at, event_at, passes, stores, last, last_store, epoch_of}, specs.Interval.{closes, closing_fence, epoch_after, interval_at, is_open}, specs.Exclusion.{excludes, marks, is_excluded}, specs.Persist.{is_checked, is_exposed, pass_unless, persist_finding}, proofs.PlacesLemmas.{least-step}, proofs.LineLemmas.{bounds-cover}, proofs.RangeLemmas.{first_from-none, first_from-same}}
use Rattle.pmf_verdict.{specs.Staying.{touches, IsUntouched, PassStays}, proofs.SoundLemmas.{pass-closed}}

true_is_false : true ≡ false → ⊥
true_is_false same = cc

last-untouched : (test : Event → Bool) (es : List Event) (p : ℕ) → at test es (suc p) ≡ false → last test es (suc p) ≡ last test es p
unfolding last greatest
last-untouched test es p none = rw none refl

-- the interval from a last store, which a fence closes
abbrev interval_by : List Event → ℕ → ℕ → Option Interval
interval_by es l f = if l == 0 then None else Some (record { last = l; opens = epoch_of es l; closes = epoch_after es f })

-- one that no fence closes is closed only where there is none
unwritten : (es : List Event) (l f g : ℕ) → f ≡ 0 → is_open (interval_by es l f) ≡ false → is_open (interval_by es l g) ≡ false
unwritten es zero f g none closed = refl
unwritten es (suc l) f g none closed =
    let some : (suc l == 0) ≡ false = ne_eqb (suc l) 0 (λ bad. omega (arith, bad)) in
    let opened : is_open (interval_by es (suc l) f) ≡ true = rw (none, some) refl in
    absurd (true_is_false (sym opened ∙ closed))

-- of no byte of the span the next event is a store, or a mark
module _ (es : List Event) (p b : ℕ) (stored : at (stores b) es (suc p) ≡ false) (marked : at (marks b) es (suc p) ≡ false) where
  checked-untouched : is_checked es (suc p) b ≡ is_checked es p b
  unfolding is_checked is_excluded
  checked-untouched = ap₂ (λ l m. nat_lt 0 l && not (at (excludes b) es m)) (last-untouched (stores b) es p stored) (last-untouched (marks b) es p marked)

  closing-untouched : 0 < closing_fence (stores b) (line_of_byte b) es p → closing_fence (stores b) (line_of_byte b) es (suc p) ≡ closing_fence (stores b) (line_of_byte b) es p
  unfolding closing_fence
  closing-untouched some =
      let test = closes es (line_of_byte b) (last_store es p b) in
      ap (λ l. least (closes es (line_of_byte b) l) (suc p)) (last-untouched (stores b) es p stored)
      ∙ least-step test p
      ∙ ap (λ v. if v then least test p else (if test (suc p) then suc p else 0)) (lt-ltb 0 (least test p) some)

  -- what is closed stays so
  closed-untouched : is_open (interval_at es p b) ≡ false → is_open (interval_at es (suc p) b) ≡ false
  closed-untouched closed =
      let same = last-untouched (stores b) es p stored in
      let line = line_of_byte b in
      elim (cases_lt 0 (closing_fence (stores b) line es p)) [
        | inl some ↦ ap₂ (λ l f. is_open (interval_by es l f)) same (closing-untouched some) ∙ closed
        | inr none ↦ ap (λ l. is_open (interval_by es l (closing_fence (stores b) line es (suc p)))) same ∙ unwritten es (last_store es p b) (closing_fence (stores b) line es p) _ (omega arith) closed
      ]

  shut-untouched : (is_checked es p b ≡ true → is_open (interval_at es p b) ≡ false) → is_exposed es (suc p) b ≡ false
  unfolding is_exposed
  shut-untouched closed = rw checked-untouched (elim (is_checked es p b) as (λ v. (v ≡ true → is_open (interval_at es p b) ≡ false) → (v && is_open (interval_at es (suc p) b)) ≡ false) [
    | true ↦ λ shut. closed-untouched (shut refl)
    | false ↦ λ shut. refl
  ] closed)

checked-some : (v : Bool) (o : Option ℕ) → (if v then PersistEmpty else pass_unless o) ≡ PersistPass → v ≡ false
checked-some v o is = grind arith

neither : (b : ℕ) (e : Option Event) → passes (touches b) e ≡ false → (passes (stores b) e ≡ false) × (passes (marks b) e ≡ false)
unfolding touches
neither b None none = (refl, refl)
neither b (Some e) none = (grind arith, grind arith)

pass-next : (es : List Event) (p : ℕ) (s : Extent) → IsUntouched es p (suc p) s → persist_finding es p s ≡ PersistPass → persist_finding es (suc p) s ≡ PersistPass
unfolding persist_finding at
pass-next es p s untouched passed =
    let apart = λ (k : ℕ) (low : s.first ≤ k) (high : k < s.first + s.size). neither k (event_at es (suc p)) (untouched (suc p) k (omega arith) (omega arith) (bounds-cover s k low high)) in
    let some = first_from-same (is_checked es (suc p)) (is_checked es p) s.first s.size (λ k low high. checked-untouched es p k (apart k low high).0 (apart k low high).1) in
    let none = first_from-none (is_exposed es (suc p)) s.first s.size (λ k low high. shut-untouched es p k (apart k low high).0 (apart k low high).1 (pass-closed es p s passed k (bounds-cover s k low high))) in
    rw (some, none, checked-some _ _ passed) refl

pass-later : (es : List Event) (p n : ℕ) (s : Extent) → IsUntouched es p (p + n) s → persist_finding es p s ≡ PersistPass → persist_finding es (p + n) s ≡ PersistPass
pass-later es p zero s untouched passed = subst (λ q. persist_finding es q s ≡ PersistPass) (omega arith) passed
pass-later es p (suc n) s untouched passed =
    let all : suc (p + n) ≡ p + suc n = omega arith in
    subst (λ q. persist_finding es q s ≡ PersistPass) all
    (pass-next es (p + n) s (λ k b from within covered. untouched k b (omega arith) (omega arith) covered) (pass-later es p n s (λ k b from within covered. untouched k b from (omega arith) covered) passed))

pub pass_stays : PassStays
pass_stays es p q s le untouched passed =
    let all : p + (q - p) ≡ q = omega arith in
    subst (λ n. persist_finding es n s ≡ PersistPass) all (pass-later es p (q - p) s (λ k b from within covered. untouched k b from (omega arith) covered) passed)
