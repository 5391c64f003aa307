-- One more event: which bytes are excluded, undurable and unwritten after it, and which pairs are ordered.
use Rattle.std.{proofs.Common.{◌≡◌, ℕ, suc, ◌+◌, ◌-◌, ◌<◌, ◌≤◌, true, false, not, ◌&&◌, ◌==◌, nat_lt, nat_le, if◌then◌else◌, List, refl, sym, ◌∙◌, ap, arith, inl, inr, Option, Some, None, lt-ltb, le-ltb, le-leb, ne_eqb}, specs.Cmp.{both_ways}, proofs.lemmas.Bool.{cases_lt, ltb-true, leb-true, and_parts, and_from, false_from_ne_true}}
use Rattle.pmf_event.{specs.declared.event.Event.{Event}, specs.declared.interval.Interval.{Interval}, specs.Line.{line_of_byte}, specs.Places.{greatest, least, some_between}, specs.Store.{event_at, at, stores, flushes, is_fence, last, last_store, epoch_of}, specs.Interval.{writes_back, first_write_back, closes, closing_fence, epoch_after, interval_at}, specs.Exclusion.{excludes, marks, is_excluded}, specs.Order.{precedes, is_closed_by}, specs.LineBytes.{is_undurable, is_unwritten}, proofs.PlacesLemmas.{greatest-above, greatest-bound, greatest-passes, least-step, least-bound, least-passes, least-none_behind, least-below, count-mono, count-here, some_between-found}, proofs.EventLemmas.{at-is, last-step, last-other, last-here}, proofs.IntervalLemmas.{Closing-found, write_back-from_Closing}, proofs.LineBytesLemmas.{lacks-parts, lacks-from, lacks-not}, proofs.WriteBackLemmas.{or-zero, last-bound, epoch_after-none, epoch_after-some, first_write_back-next}}

-- a write-back follows a place where the last write-back does
first-follows : (es : List Event) (line k p : ℕ) → nat_lt 0 (least (writes_back es line k) p) ≡ nat_lt k (greatest (at (flushes line) es) p)
unfolding writes_back
first-follows es line k p =
    let w = least (writes_back es line k) p in
    let g = greatest (at (flushes line) es) p in
    both_ways _ _
    (λ some.
    let positive = ltb-true 0 w some in
    let is = and_parts (nat_lt k w) (at (flushes line) es w) (least-passes (writes_back es line k) p positive) in
    let after = ltb-true k w is.0 in
    let above = greatest-above (at (flushes line) es) p w positive (least-bound (writes_back es line k) p) is.1 in
    lt-ltb k g (omega arith))
    (λ after.
    let behind = ltb-true k g after in
    let flush = greatest-passes (at (flushes line) es) p (omega arith) in
    let found = least-below (writes_back es line k) p g (omega arith) (greatest-bound (at (flushes line) es) p) (and_from _ _ after flush) in
    lt-ltb 0 w found.0)

-- a fence that closes comes behind a write-back
first-from_closing : (es : List Event) (line k p : ℕ) → 0 < least (closes es line k) p → 0 < least (writes_back es line k) p
first-from_closing es line k p some = (write_back-from_Closing es line k p (Closing-found es line k p some)).0

closing-bound : (es : List Event) (p b : ℕ) → closing_fence (stores b) (line_of_byte b) es p ≤ p
unfolding closing_fence
closing-bound es p b = least-bound (closes es (line_of_byte b) (last_store es p b)) p

pub undurable-stored_to : (es : List Event) (p b : ℕ) → is_undurable es p b ≡ true → 0 < last_store es p b
unfolding is_undurable
undurable-stored_to es p b is = (lacks-parts (last_store es p b) (closing_fence (stores b) (line_of_byte b) es p) is).0

module _ (es : List Event) (p b : ℕ) (e : Event) (here : event_at es (suc p) ≡ Some e) where
  pub excluded-step : is_excluded es (suc p) b ≡ (if marks b e then excludes b e else is_excluded es p b)
  unfolding is_excluded
  excluded-step = ap (at (excludes b) es) (last-step (marks b) es p e here) ∙ elim (marks b e) as (λ v. at (excludes b) es (if v then suc p else last (marks b) es p) ≡ (if v then excludes b e else at (excludes b) es (last (marks b) es p))) [
    | true ↦ at-is (excludes b) es (suc p) (Some e) here
    | false ↦ refl
  ]

  -- the closing fence after an event that is no store of the byte
  pub closing-step : stores b e ≡ false →
      closing_fence (stores b) (line_of_byte b) es (suc p)
      ≡ (if nat_lt 0 (closing_fence (stores b) (line_of_byte b) es p) then closing_fence (stores b) (line_of_byte b) es p
      else (if is_fence e && nat_lt (last_store es p b) (greatest (at (flushes (line_of_byte b)) es) p) then suc p else 0))
  unfolding closing_fence closes some_between
  closing-step other = grind (arith, nat_lt, last-other, least-step, at-is)

  closing-stored : stores b e ≡ true → closing_fence (stores b) (line_of_byte b) es (suc p) ≡ 0
  unfolding closing_fence closes
  closing-stored is =
      let line = line_of_byte b in
      let test = closes es line (suc p) in
      let none = least-none_behind test (suc p) (λ k closing.
      let found = some_between-found (at (flushes line) es) (suc p) k (and_parts (at is_fence es k) (some_between (at (flushes line) es) (suc p) k) closing).1 in
      let after = found.after in let within = found.within in omega arith) in
      ap (λ l. least (closes es line l) (suc p)) (last-here (stores b) es p e here is) ∙ none

  closing-kept : stores b e ≡ false → is_fence e ≡ false → closing_fence (stores b) (line_of_byte b) es (suc p) ≡ closing_fence (stores b) (line_of_byte b) es p
  closing-kept other no_fence = grind (arith, closing-step, nat_lt, or-zero)

  -- one that has closed stays, and one that closes now is here
  closing-same : stores b e ≡ false → 0 < closing_fence (stores b) (line_of_byte b) es p →
      closing_fence (stores b) (line_of_byte b) es (suc p) ≡ closing_fence (stores b) (line_of_byte b) es p
  closing-same other closed = grind (arith, closing-step, nat_lt, lt-ltb)

  closing-late : stores b e ≡ false → closing_fence (stores b) (line_of_byte b) es p ≡ 0 → 0 < closing_fence (stores b) (line_of_byte b) es (suc p) →
      closing_fence (stores b) (line_of_byte b) es (suc p) ≡ suc p
  closing-late other unclosed some = grind (arith, nat_lt, closing-step, le-ltb)

  pub undurable-stored : stores b e ≡ true → is_undurable es (suc p) b ≡ true
  unfolding is_undurable
  undurable-stored is = lacks-from (last_store es (suc p) b) (closing_fence (stores b) (line_of_byte b) es (suc p)) (let now = last-here (stores b) es p e here is in omega arith) (closing-stored is)

  pub undurable-kept : stores b e ≡ false → is_fence e ≡ false → is_undurable es (suc p) b ≡ is_undurable es p b
  unfolding is_undurable
  undurable-kept other no_fence = grind (arith, nat_lt, last-other, closing-kept)

  -- (the closing fence is the first that closes)
  first-closed : 0 < closing_fence (stores b) (line_of_byte b) es p → 0 < least (writes_back es (line_of_byte b) (last_store es p b)) p
  unfolding closing_fence
  first-closed closed = first-from_closing es (line_of_byte b) (last_store es p b) p closed

  -- a fence makes durable what was written back
  pub undurable-fenced : stores b e ≡ false → is_fence e ≡ true → is_undurable es (suc p) b ≡ is_unwritten es p b
  unfolding is_undurable is_unwritten first_write_back
  undurable-fenced other fence =
      let line = line_of_byte b in
      let k = last_store es p b in
      let f = closing_fence (stores b) line es p in
      let w = least (writes_back es line k) p in
      let g = greatest (at (flushes line) es) p in
      let now : closing_fence (stores b) line es (suc p) ≡ (if nat_lt 0 f then f else (if nat_lt 0 w then suc p else 0)) =
      closing-step other ∙ ap (λ v. if nat_lt 0 f then f else (if v && nat_lt k g then suc p else 0)) fence
      ∙ ap (λ v. if nat_lt 0 f then f else (if v then suc p else 0)) (sym (first-follows es line k p)) in
      ap (λ l. nat_lt 0 l && closing_fence (stores b) line es (suc p) == 0) (last-other (stores b) es p e here other)
      ∙ ap (λ c. nat_lt 0 k && c == 0) now
      ∙ elim (cases_lt 0 w) [
        | inl some ↦ grind arith
        | inr none ↦ grind (arith, cases_lt, first-closed, nat_lt, le-ltb)
      ]

  pub unwritten-stored : stores b e ≡ true → is_unwritten es (suc p) b ≡ true
  unfolding is_unwritten first_write_back writes_back
  unwritten-stored is = grind (arith, last-here, least-none_behind, ltb-true, and_parts, nat_lt, lacks-from)

  pub unwritten-kept : stores b e ≡ false → flushes (line_of_byte b) e ≡ false → is_unwritten es (suc p) b ≡ is_unwritten es p b
  unfolding is_unwritten
  unwritten-kept other no_flush =
      let w = first_write_back (stores b) (line_of_byte b) es p in
      ap (λ k. nat_lt 0 k && first_write_back (stores b) (line_of_byte b) es (suc p) == 0) (last-other (stores b) es p e here other)
      ∙ ap (λ c. nat_lt 0 (last_store es p b) && c == 0)
      (first_write_back-next (stores b) (line_of_byte b) es p e here other ∙ ap (λ v. if nat_lt 0 w then w else (if v then suc p else 0)) no_flush ∙ or-zero w)

  pub unwritten-flushed : stores b e ≡ false → flushes (line_of_byte b) e ≡ true → is_unwritten es (suc p) b ≡ false
  unfolding is_unwritten
  unwritten-flushed other flush =
      let w = first_write_back (stores b) (line_of_byte b) es p in
      lacks-not (last_store es (suc p) b) (first_write_back (stores b) (line_of_byte b) es (suc p)) (λ some.
      let next = first_write_back-next (stores b) (line_of_byte b) es p e here other ∙ ap (λ v. if nat_lt 0 w then w else (if v then suc p else 0)) flush in
      elim (cases_lt 0 w) [
        | inl has ↦ let is : (if nat_lt 0 w then w else suc p) ≡ w = ap (λ v. if v then w else suc p) (lt-ltb 0 w has) in omega arith
        | inr none ↦ let is : (if nat_lt 0 w then w else suc p) ≡ suc p = ap (λ v. if v then w else suc p) (le-ltb 0 w none) in omega arith
      ])

-- ---- pairs

-- the interval from a last store, its epoch, and when it closes
interval_of : ℕ → ℕ → Option ℕ → Option Interval
interval_of l opens closes = if l == 0 then None else Some (record { last = l; opens = opens; closes = closes })

interval-is : (es : List Event) (p b : ℕ) → interval_at es p b ≡ interval_of (last_store es p b) (epoch_of es (last_store es p b)) (epoch_after es (closing_fence (stores b) (line_of_byte b) es p))
unfolding interval_of
interval-is es p b = refl

interval_of-some : (l opens : ℕ) (closes : Option ℕ) → 0 < l → interval_of l opens closes ≡ Some (record { last = l; opens = opens; closes = closes })
unfolding interval_of
interval_of-some l opens closes some = ap (λ v. if v then None else Some (record { last = l; opens = opens; closes = closes })) (ne_eqb l 0 (λ zero_is. omega arith))

-- the one byte was stored to, and closed by a fence before the last store of the other
pub record IsBefore (es : List Event) (p x y : ℕ) : Type 0 where
  pub stored : 0 < last_store es p x
  pub closed : 0 < closing_fence (stores x) (line_of_byte x) es p
  pub before : closing_fence (stores x) (line_of_byte x) es p < last_store es p y

module _ (es : List Event) (p x y : ℕ) where
  closing-fences : 0 < closing_fence (stores x) (line_of_byte x) es p → at is_fence es (closing_fence (stores x) (line_of_byte x) es p) ≡ true
  unfolding closing_fence closes
  closing-fences some = grind (arith, and_parts, least-passes)

  pub precedes-parts : precedes (interval_at es p x) (interval_at es p y) ≡ true → IsBefore es p x y
  unfolding epoch_of
  precedes-parts is = grind (arith, cases_lt, interval-is, interval_of-some, epoch_after-none, nat_le, epoch_after-some, leb-true, count-mono)

  pub precedes-from : IsBefore es p x y → precedes (interval_at es p x) (interval_at es p y) ≡ true
  unfolding epoch_of
  precedes-from is =
      let lx = last_store es p x in
      let ly = last_store es p y in
      let f = closing_fence (stores x) (line_of_byte x) es p in
      let shut = is.closed in
      let before = is.before in
      let here = count-here (at is_fence es) f shut (closing-fences shut) in
      let up = count-mono (at is_fence es) f (ly - 1) (omega arith) in
      ap (λ o. precedes o (interval_at es p y)) (interval-is es p x ∙ interval_of-some lx (epoch_of es lx) (epoch_after es f) is.stored)
      ∙ ap (precedes (Some (record { last = lx; opens = epoch_of es lx; closes = epoch_after es f })))
      (interval-is es p y ∙ interval_of-some ly (epoch_of es ly) (epoch_after es (closing_fence (stores y) (line_of_byte y) es p)) (omega arith))
      ∙ ap (λ o. is_closed_by o (epoch_of es ly)) (epoch_after-some es f shut)
      ∙ le-leb (epoch_of es f + 1) (epoch_of es ly) (omega arith)

module _ (es : List Event) (p x y : ℕ) (e : Event) (here : event_at es (suc p) ≡ Some e) where
  -- what is stored to now is durable before nothing
  pub precedes-reopened : stores x e ≡ true → precedes (interval_at es (suc p) x) (interval_at es (suc p) y) ≡ false
  precedes-reopened is = false_from_ne_true _ (λ before. let b = precedes-parts es (suc p) x y before in let closed = b.closed in let none = closing-stored es p x e here is in omega arith)

  -- what is durable is durable before what is stored to now
  pub precedes-stored : stores x e ≡ false → stores y e ≡ true → is_fence e ≡ false → 0 < last_store es p x →
      precedes (interval_at es (suc p) x) (interval_at es (suc p) y) ≡ not (is_undurable es p x)
  unfolding is_undurable
  precedes-stored other is no_fence some = grind (arith, closing-kept, last-other, last-here, cases_lt, closing-bound, precedes-from, lacks-not, false_from_ne_true, precedes-parts, lacks-from)

  pub precedes-kept : stores x e ≡ false → stores y e ≡ false → precedes (interval_at es (suc p) x) (interval_at es (suc p) y) ≡ precedes (interval_at es p x) (interval_at es p y)
  precedes-kept other no_store =
      let f = closing_fence (stores x) (line_of_byte x) es p in
      let now = closing-step es p x e here other in
      let last_x = last-other (stores x) es p e here other in
      let last_y = last-other (stores y) es p e here no_store in
      let bound = last-bound (stores y) es p in
      both_ways _ _
      (λ after. let b = precedes-parts es (suc p) x y after in let shut = b.closed in let before = b.before in let stored = b.stored in elim (cases_lt 0 f) [
        | inl closed ↦ let same = closing-same es p x e here other closed in precedes-from es p x y (record { stored = omega arith; closed = closed; before = omega arith })
        | inr unclosed ↦ let late = closing-late es p x e here other (omega arith) shut in absurd (omega arith)
      ])
      (λ before. let b = precedes-parts es p x y before in let closed = b.closed in let early = b.before in let stored = b.stored in
      let same = closing-same es p x e here other closed in precedes-from es (suc p) x y (record { stored = omega arith; closed = omega arith; before = omega arith }))
