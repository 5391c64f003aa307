-- The first write-back after the last of some stores, event by event, and the epoch in which it lies.
-- The stores are those of a byte or those of a line: no such store is a write-back of the line.
use Rattle.std.proofs.{Common.{◌≡◌, ℕ, suc, ◌+◌, ◌-◌, ◌<◌, ◌≤◌, Bool, true, false, ◌&&◌, nat_lt, if◌then◌else◌, List, refl, sym, ◌∙◌, ap, arith, inl, inr, Option, Some, None, is_none, le-ltb, ltb-false, lt-ltb, ne_eqb}, lemmas.Bool.{cases_lt, cases_eq, and_parts, and_from, ltb-true}, lemmas.Bool.Decides.{Decides-eqb}}
use Rattle.pmf_event.{specs.declared.event.Event.{Event}, specs.Places.{least, count, some_between}, specs.Store.{event_at, at, flushes, is_fence, last, epoch_of}, specs.Interval.{writes_back, first_write_back, closes, closing_fence, epoch_after}, specs.WriteBack.{epoch_unless, write_back_epoch}, proofs.PlacesLemmas.{greatest-bound, least-step, least-bound, least-passes, least-none, least-none_behind, least-below, count-mono, count-found, some_between-here, some_between-found}, proofs.EventLemmas.{at-is, last-other, last-here, epoch_of-next, not_fence_and_flush}, proofs.IntervalLemmas.{Closing-found, Closing-closes, write_back-from_Closing, Closing-from_write_back}}

pub or-zero : (n : ℕ) → (if nat_lt 0 n then n else 0) ≡ n
or-zero n = elim (nat_lt 0 n) as (λ v. nat_lt 0 n ≡ v → (if v then n else 0) ≡ n) [
  | true ↦ λ is. refl
  | false ↦ λ is. let small = ltb-false 0 n is in omega arith
] refl

pub epoch_unless-none : (es : List Event) (w : ℕ) → w ≡ 0 → epoch_unless es w ≡ None
epoch_unless-none es w zero_is = ap (λ v. if v then None else Some (epoch_of es w)) ((Decides-eqb w 0).1 zero_is)

pub epoch_unless-some : (es : List Event) (w : ℕ) → 0 < w → epoch_unless es w ≡ Some (epoch_of es w)
epoch_unless-some es w some = ap (λ v. if v then None else Some (epoch_of es w)) (ne_eqb w 0 (λ zero_is. omega arith))

keeps-some : (o : Option ℕ) (x c : ℕ) → o ≡ Some x → (if is_none o then Some c else o) ≡ o
keeps-some o x c is = ap (λ (v : Option ℕ). if is_none v then Some c else v) is ∙ sym is

pub last-bound : (test : Event → Bool) (es : List Event) (p : ℕ) → last test es p ≤ p
unfolding last
last-bound test es p = greatest-bound (at test es) p

pub epoch_unless-place : (es : List Event) (k w : ℕ) → epoch_unless es k ≡ Some w → (0 < k) × (epoch_of es k ≡ w)
epoch_unless-place es k w is = elim (cases_eq k 0) [
  | inl zero_is ↦ let bad : None ≡ Some w = sym (epoch_unless-none es k zero_is) ∙ is in cc
  | inr other ↦ let same : Some (epoch_of es k) ≡ Some w = sym (epoch_unless-some es k (omega arith)) ∙ is in (omega arith, cc)
]

pub epoch_after-none : (es : List Event) (f : ℕ) → f ≡ 0 → epoch_after es f ≡ None
epoch_after-none es f zero_is = ap (λ v. if v then None else Some (epoch_of es f + 1)) ((Decides-eqb f 0).1 zero_is)

pub epoch_after-some : (es : List Event) (f : ℕ) → 0 < f → epoch_after es f ≡ Some (epoch_of es f + 1)
epoch_after-some es f some = ap (λ v. if v then None else Some (epoch_of es f + 1)) (ne_eqb f 0 (λ zero_is. omega arith))

-- the first fence that closes ends the epoch of the first write-back: no fence lies between them
same_epoch : (es : List Event) (line k p : ℕ) → 0 < least (closes es line k) p → epoch_of es (least (closes es line k) p) ≡ epoch_of es (least (writes_back es line k) p)
unfolding epoch_of closes writes_back
same_epoch es line k p some =
    let f = least (closes es line k) p in
    let w = least (writes_back es line k) p in
    let closing = and_parts (at is_fence es f) (some_between (at (flushes line) es) k f) (least-passes (closes es line k) p some) in
    let flush = some_between-found (at (flushes line) es) k f closing.1 in
    let bound = least-bound (closes es line k) p in
    let first = least-below (writes_back es line k) p flush.place (let after = flush.after in omega arith) (let within = flush.within in omega arith)
    (and_from _ _ (lt-ltb k flush.place flush.after) flush.passes) in
    let is = and_parts (nat_lt k w) (at (flushes line) es w) (least-passes (writes_back es line k) p first.0) in
    let before : w < f = let within = flush.within in let low = first.1 in omega arith in
    let up = count-mono (at is_fence es) (w - 1) (f - 1) (omega arith) in
    elim (cases_lt (count (at is_fence es) (w - 1)) (count (at is_fence es) (f - 1))) [
      | inl rose ↦
          let fence = count-found (at is_fence es) (w - 1) (f - 1) rose in
          elim (cases_eq fence.place w) [
            | inl same ↦ absurd (not_fence_and_flush es line w (ap (at is_fence es) (sym same) ∙ fence.passes) is.1)
            | inr other ↦
                let after = fence.after in
                let within = fence.within in
                let earlier = least-below (closes es line k) p fence.place (omega arith) (omega arith)
                (and_from _ _ fence.passes (some_between-here (at (flushes line) es) k fence.place w (ltb-true k w is.0) (omega arith) is.1)) in
                let low = earlier.1 in absurd (omega arith)
          ]
      | inr level ↦ omega arith
    ]

module _ (stored : Event → Bool) (line : ℕ) (es : List Event) (p : ℕ) where
  module _ (e : Event) (here : event_at es (suc p) ≡ Some e) where
    writes_back-next : (k : ℕ) → k ≤ p → writes_back es line k (suc p) ≡ flushes line e
    unfolding writes_back
    writes_back-next k before =
        ap (λ v. v && at (flushes line) es (suc p)) (lt-ltb k (suc p) (omega arith)) ∙ at-is (flushes line) es (suc p) (Some e) here

    -- the first write-back after one more event that is none of the stores
    pub first_write_back-next : stored e ≡ false →
        first_write_back stored line es (suc p)
        ≡ (if nat_lt 0 (first_write_back stored line es p) then first_write_back stored line es p else (if flushes line e then suc p else 0))
    unfolding first_write_back
    first_write_back-next other =
        let test = writes_back es line (last stored es p) in
        ap (λ k. least (writes_back es line k) (suc p)) (last-other stored es p e here other)
        ∙ least-step test p
        ∙ ap (λ v. if nat_lt 0 (least test p) then least test p else (if v then suc p else 0)) (writes_back-next (last stored es p) (last-bound stored es p))

    pub write_back-kept : stored e ≡ false → flushes line e ≡ false → write_back_epoch stored line es (suc p) ≡ write_back_epoch stored line es p
    unfolding write_back_epoch
    write_back-kept other no_flush = ap (epoch_unless es) (first_write_back-next other
        ∙ ap (λ v. if nat_lt 0 (first_write_back stored line es p) then first_write_back stored line es p else (if v then suc p else 0)) no_flush
        ∙ or-zero (first_write_back stored line es p))

    pub write_back-stored : stored e ≡ true → write_back_epoch stored line es (suc p) ≡ None
    unfolding write_back_epoch first_write_back writes_back
    write_back-stored is =
        let test = writes_back es line (suc p) in
        let none = least-none_behind test (suc p) (λ k is_behind. ltb-true (suc p) k (and_parts (nat_lt (suc p) k) (at (flushes line) es k) is_behind).0) in
        ap (λ k. epoch_unless es (least (writes_back es line k) (suc p))) (last-here stored es p e here is) ∙ epoch_unless-none es (least test (suc p)) none

    pub write_back-flushed : stored e ≡ false → flushes line e ≡ true →
        write_back_epoch stored line es (suc p) ≡ (if is_none (write_back_epoch stored line es p) then Some (count (at is_fence es) p) else write_back_epoch stored line es p)
    unfolding write_back_epoch
    write_back-flushed other flush =
        let w = first_write_back stored line es p in
        let next : first_write_back stored line es (suc p) ≡ (if nat_lt 0 w then w else suc p) =
        first_write_back-next other ∙ ap (λ v. if nat_lt 0 w then w else (if v then suc p else 0)) flush in
        ap (epoch_unless es) next ∙ elim (cases_eq w 0) [
          | inl zero_is ↦
              ap (λ v. epoch_unless es (if v then w else suc p)) (le-ltb 0 w (omega arith))
              ∙ epoch_unless-some es (suc p) (omega arith)
              ∙ ap (λ k. Some k) (epoch_of-next es p)
              ∙ sym (ap (λ (o : Option ℕ). if is_none o then Some (count (at is_fence es) p) else o) (epoch_unless-none es w zero_is))
          | inr some ↦
              ap (λ v. epoch_unless es (if v then w else suc p)) (lt-ltb 0 w (omega arith))
              ∙ sym (keeps-some (epoch_unless es w) (epoch_of es w) (count (at is_fence es) p) (epoch_unless-some es w (omega arith)))
        ]

  -- a write-back whose epoch has ended, exactly where a fence closes; and the epoch after the fence's
  pub closing-from_epoch : (w : ℕ) → write_back_epoch stored line es p ≡ Some w → w < count (at is_fence es) p →
      epoch_after es (closing_fence stored line es p) ≡ Some (w + 1)
  unfolding write_back_epoch first_write_back closing_fence
  closing-from_epoch w is ended =
      let k = last stored es p in
      let place = least (writes_back es line k) p in
      let some = epoch_unless-place es place w is in
      let found = Closing-closes es line k p (Closing-from_write_back es line k p some.0 (let at_is = some.1 in omega arith)) in
      epoch_after-some es (least (closes es line k) p) found ∙ ap (λ n. Some (n + 1)) (same_epoch es line k p found ∙ some.1)

  pub closing-none : write_back_epoch stored line es p ≡ None → epoch_after es (closing_fence stored line es p) ≡ None
  unfolding write_back_epoch first_write_back closing_fence
  closing-none is =
      let k = last stored es p in
      epoch_after-none es (least (closes es line k) p) (least-none (closes es line k) p (λ some.
      let first = write_back-from_Closing es line k p (Closing-found es line k p some) in
      let bad : None ≡ Some (epoch_of es (least (writes_back es line k) p)) = sym is ∙ epoch_unless-some es (least (writes_back es line k) p) first.0 in cc))

  pub closing-late : (w : ℕ) → write_back_epoch stored line es p ≡ Some w → count (at is_fence es) p ≤ w → epoch_after es (closing_fence stored line es p) ≡ None
  unfolding write_back_epoch first_write_back closing_fence
  closing-late w is late =
      let k = last stored es p in
      epoch_after-none es (least (closes es line k) p) (least-none (closes es line k) p (λ some.
      let first = write_back-from_Closing es line k p (Closing-found es line k p some) in
      let place = epoch_unless-place es (least (writes_back es line k) p) w is in
      let ended = first.1 in let same = place.1 in omega arith))
