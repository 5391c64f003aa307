-- An interval is closed exactly where its first write-back lies in an epoch that a fence has ended.
use Rattle.std.proofs.{Common.{◌≡◌, ℕ, ◌-◌, ◌<◌, ◌≤◌, Bool, true, false, not, ◌&&◌, ◌==◌, nat_lt, if◌then◌else◌, List, refl, sym, ◌∙◌, ap, arith, inl, inr, Some, None, lt-ltb}, lemmas.Bool.{cases_eq, and_parts, and_from, ltb-true}, lemmas.Bool.Decides.{Decides-eqb}}
use Rattle.pmf_event.{specs.declared.event.Event.{Event}, specs.Line.{line_of_byte}, specs.Places.{least, count, some_between}, specs.Store.{at, stores, flushes, is_fence, last_store, epoch_of}, specs.Interval.{writes_back, closes, closing_fence, interval_at, is_open}, proofs.PlacesLemmas.{least-bound, least-passes, least-below, count-mono, count-here, count-found, some_between-here, some_between-found}, proofs.EventLemmas.{not_fence_and_flush}}

pub not_zero : (n : ℕ) → 0 < n → not (n == 0) ≡ true
not_zero n some = elim (n == 0) as (λ v. (n == 0) ≡ v → not v ≡ true) [ true ↦ λ is. let zero_is : n ≡ 0 = (Decides-eqb n 0).0 is in absurd (omega arith) | false ↦ λ is. refl ] refl

-- a write-back after k, and a later fence
pub record Closing (es : List Event) (line k p : ℕ) : Type 0 where
  pub flush : ℕ
  pub fence : ℕ
  pub after : k < flush
  pub before : flush < fence
  pub within : fence ≤ p
  pub is_flush : at (flushes line) es flush ≡ true
  pub is_fence : at is_fence es fence ≡ true

module _ (es : List Event) (line k p : ℕ) where
  pub Closing-found : 0 < least (closes es line k) p → Closing es line k p
  unfolding closes
  Closing-found some =
      let fence = least (closes es line k) p in
      let is = and_parts (at is_fence es fence) (some_between (at (flushes line) es) k fence) (least-passes (closes es line k) p some) in
      let found = some_between-found (at (flushes line) es) k fence is.1 in
      let bound = least-bound (closes es line k) p in
      record {
        flush = found.place;
        fence = fence;
        after = found.after;
        before = omega (arith, found.within);
        within = bound;
        is_flush = found.passes;
        is_fence = is.0;
      }

  pub Closing-closes : Closing es line k p → 0 < least (closes es line k) p
  unfolding closes
  Closing-closes c =
      let between = some_between-here (at (flushes line) es) k c.fence c.flush c.after c.before c.is_flush in
      (least-below (closes es line k) p c.fence (omega (arith, c.before)) c.within (and_from _ _ c.is_fence between)).0

  -- the first write-back, and that a fence ended its epoch
  pub write_back-from_Closing : Closing es line k p →
      (0 < least (writes_back es line k) p) × (epoch_of es (least (writes_back es line k) p) < count (at is_fence es) p)
  unfolding writes_back epoch_of
  write_back-from_Closing c =
      let first = least-below (writes_back es line k) p c.flush (omega (arith, c.after)) (omega (arith, c.before, c.within)) (and_from _ _ (lt-ltb k c.flush c.after) c.is_flush) in
      let w = least (writes_back es line k) p in
      let early = count-mono (at is_fence es) (w - 1) (c.fence - 1) (omega (arith, first.1, c.before)) in
      let rise = count-here (at is_fence es) c.fence (omega (arith, c.before)) c.is_fence in
      let late = count-mono (at is_fence es) c.fence p c.within in
      (first.0, omega (arith, early, rise, late))

  pub Closing-from_write_back : 0 < least (writes_back es line k) p → epoch_of es (least (writes_back es line k) p) < count (at is_fence es) p →
      Closing es line k p
  unfolding writes_back epoch_of
  Closing-from_write_back some ended =
      let w = least (writes_back es line k) p in
      let is = and_parts (nat_lt k w) (at (flushes line) es w) (least-passes (writes_back es line k) p some) in
      let found = count-found (at is_fence es) (w - 1) p ended in
      elim (cases_eq found.place w) [
        | inl same ↦ absurd (not_fence_and_flush es line w (ap (at is_fence es) (sym same) ∙ found.passes) is.1)
        | inr other ↦ record {
          flush = w;
          fence = found.place;
          after = ltb-true k w is.0;
          before = omega (arith, found.after, other);
          within = found.within;
          is_flush = is.1;
          is_fence = found.passes;
        }
      ]

interval-cases : (u v : Bool) (l o c : ℕ) →
    is_open (if u then None else Some (record { last = l; opens = o; closes = if v then None else Some c })) ≡ (not u && v)
interval-cases true v l o c = refl
interval-cases false true l o c = refl
interval-cases false false l o c = refl

-- an interval is open where the byte is written and no fence closes it
pub is_open-interval_at : (es : List Event) (p b : ℕ) →
    is_open (interval_at es p b) ≡ (not (last_store es p b == 0) && (closing_fence (stores b) (line_of_byte b) es p == 0))
is_open-interval_at es p b = interval-cases (last_store es p b == 0) (closing_fence (stores b) (line_of_byte b) es p == 0) _ _ _

-- a written byte whose interval is not open has a write-back and a later fence
pub Closing-from_closed : (es : List Event) (p b : ℕ) → 0 < last_store es p b → is_open (interval_at es p b) ≡ false →
    Closing es (line_of_byte b) (last_store es p b) p
unfolding closing_fence
Closing-from_closed es p b written shut =
    let fence = closing_fence (stores b) (line_of_byte b) es p in
    elim (cases_eq fence 0) [
      | inl none ↦
          let found = and_from (not (last_store es p b == 0)) (fence == 0) (not_zero (last_store es p b) written) ((Decides-eqb fence 0).1 none) in
          let bad : false ≡ true = sym shut ∙ is_open-interval_at es p b ∙ found in cc
      | inr some ↦ Closing-found es (line_of_byte b) (last_store es p b) p (omega arith)
    ]

-- an open interval has none
pub no_Closing-from_open : (es : List Event) (p b : ℕ) → is_open (interval_at es p b) ≡ true → Closing es (line_of_byte b) (last_store es p b) p → ⊥
unfolding closing_fence
no_Closing-from_open es p b gap found =
    let fence = closing_fence (stores b) (line_of_byte b) es p in
    let is = and_parts (not (last_store es p b == 0)) (fence == 0) (sym (is_open-interval_at es p b) ∙ gap) in
    let none : fence ≡ 0 = (Decides-eqb fence 0).0 is.1 in
    let some : 0 < fence = Closing-closes es (line_of_byte b) (last_store es p b) p found in omega arith
