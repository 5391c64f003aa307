-- Laws of transactions and of the scope, event by event: the depth, the bytes that are backed up, the
-- place that opened the scope, and its bytes.
use Rattle.std.proofs.{Common.{◌≡◌, ℕ, zero, suc, ◌-◌, ◌<◌, ◌≤◌, Bool, true, false, not, ◌&&◌, nat_lt, if◌then◌else◌, List, refl, sym, ◌∙◌, ap, arith, inl, inr, Some, le-ltb, ltb-false, lt-ltb}, lemmas.Bool.{cases_lt, cases_eq, and_parts, and_from, ltb-true}, Math.Bool.{and-false}}
use Rattle.pmf_event.{specs.declared.event.Event.{Event}, specs.declared.event.Event.TheVariants.{TxBegin, TxEnd, CheckStart, CheckEnd}, specs.Places.{greatest, least, count, highest}, specs.Store.{event_at, at, stores, last, last_store}, specs.Exclusion.{is_included}, specs.Interval.{interval_at, is_open}, specs.Persist.{is_checked, is_exposed}, specs.Transactions.{begins, ends, rise, depth_at, in_transaction, is_outside, adds, is_backed, opens_scope, closes_scope, opens_after, scope_at, in_scope, stores_inside, is_scoped, is_left_open}, proofs.PlacesLemmas.{greatest-step, greatest-zero, greatest-bound, greatest-passes, greatest-above, least-step, least-zero, least-bound, least-none_behind, count-step, count-mono, count-le}, proofs.EventLemmas.{at-is, last-other, last-here}, proofs.WriteBackLemmas.{last-bound}}

-- ---- the highest value

-- a place with the highest value
pub record Attained (value : ℕ → ℕ) (n : ℕ) : Type 0 where
  pub place : ℕ
  pub within : place ≤ n
  pub is : value place ≡ highest value n

module _ (value : ℕ → ℕ) where
  pub highest-above : (n q : ℕ) → q ≤ n → value q ≤ highest value n
  unfolding highest
  highest-above zero q within = let same : q ≡ 0 = omega arith in rw same (omega arith)
  highest-above (suc n) q within = elim (cases_eq q (suc n)) [
    | inl same ↦ rw same (omega arith)
    | inr other ↦ let before = highest-above n q (omega arith) in omega arith
  ]

  pub highest-attained : (n : ℕ) → Attained value n
  unfolding highest
  highest-attained zero = record { place = 0; within = omega arith; is = refl }
  highest-attained (suc n) = elim (cases_lt (highest value n) (value (suc n))) [
    | inl more ↦ record { place = suc n; within = omega arith; is = omega arith }
    | inr less ↦ let before = highest-attained n in record { place = before.place; within = omega (arith, before.within); is = omega (arith, before.is) }
  ]

  -- a value that a place has and none exceeds
  pub highest-is : (n h place : ℕ) → ((q : ℕ) → q ≤ n → value q ≤ h) → place ≤ n → value place ≡ h → highest value n ≡ h
  highest-is n h place most within is =
      let above = highest-above n place within in
      let top = highest-attained n in
      let bound = most top.place top.within in
      let same = top.is in omega arith

-- ---- depth

count-is : (test : Event → Bool) (es : List Event) (p : ℕ) (e : Event) → event_at es (suc p) ≡ Some e → test e ≡ true →
    count (at test es) (suc p) ≡ suc (count (at test es) p)
count-is test es p e here is =
    count-step (at test es) p ∙ ap (λ v. if v then suc (count (at test es) p) else count (at test es) p) (at-is test es (suc p) (Some e) here ∙ is)

count-other : (test : Event → Bool) (es : List Event) (p : ℕ) (e : Event) → event_at es (suc p) ≡ Some e → test e ≡ false →
    count (at test es) (suc p) ≡ count (at test es) p
count-other test es p e here other =
    count-step (at test es) p ∙ ap (λ v. if v then suc (count (at test es) p) else count (at test es) p) (at-is test es (suc p) (Some e) here ∙ other)

rise-is : (es : List Event) (p q : ℕ) → rise es p q ≡ (count (at begins es) p - count (at begins es) q) - (count (at ends es) p - count (at ends es) q)
unfolding rise
rise-is es p q = refl

rise-here : (es : List Event) (p : ℕ) → rise es p p ≡ 0
rise-here es p = let is = rise-is es p p in omega arith

depth-from : (es : List Event) (p h place : ℕ) → ((q : ℕ) → q ≤ p → rise es p q ≤ h) → place ≤ p → rise es p place ≡ h → depth_at es p ≡ h
unfolding depth_at
depth-from es p h place most within is = highest-is (rise es p) p h place most within is

depth-above : (es : List Event) (p q : ℕ) → q ≤ p → rise es p q ≤ depth_at es p
unfolding depth_at
depth-above es p q within = highest-above (rise es p) p q within

-- a place from which the depth has risen
record Deepest (es : List Event) (p : ℕ) : Type 0 where
  place : ℕ
  within : place ≤ p
  is : rise es p place ≡ depth_at es p

depth-top : (es : List Event) (p : ℕ) → Deepest es p
unfolding depth_at
depth-top es p = let top = highest-attained (rise es p) p in record { place = top.place; within = top.within; is = top.is }

pub depth-start : (es : List Event) → depth_at es 0 ≡ 0
depth-start es = depth-from es 0 0 0 (λ q within. let same : q ≡ 0 = omega arith in let here = rise-here es 0 in rw same (omega arith)) (omega arith) (rise-here es 0)

-- no more transactions run than there were events
pub depth-bound : (es : List Event) (p : ℕ) → depth_at es p ≤ p
depth-bound es p =
    let top = depth-top es p in
    let rose = rise-is es p top.place in
    let few = count-le (at begins es) p in
    let is = top.is in omega arith

module _ (es : List Event) (p : ℕ) (e : Event) (here : event_at es (suc p) ≡ Some e) where
  pub depth-begun : begins e ≡ true → ends e ≡ false → depth_at es (suc p) ≡ suc (depth_at es p)
  depth-begun is other =
      let more = count-is begins es p e here is in
      let same = count-other ends es p e here other in
      let step : (q : ℕ) → rise es (suc p) q ≤ suc (rise es p q) = λ q. let new = rise-is es (suc p) q in let old = rise-is es p q in omega arith in
      let most : (q : ℕ) → q ≤ suc p → rise es (suc p) q ≤ suc (depth_at es p) = λ q within. elim (cases_eq q (suc p)) [
        | inl last ↦ let none = rise-here es (suc p) in rw last (omega arith)
        | inr before ↦ let old = depth-above es p q (omega arith) in let up = step q in omega arith
      ] in
      elim (cases_eq (depth_at es p) 0) [
        | inl flat ↦ depth-from es (suc p) (suc (depth_at es p)) p most (omega arith) (let new = rise-is es (suc p) p in omega arith)
        | inr deep ↦
            let top = depth-top es p in
            let old = rise-is es p top.place in
            let new = rise-is es (suc p) top.place in
            let top_is = top.is in
            depth-from es (suc p) (suc (depth_at es p)) top.place most (let within = top.within in omega arith) (omega arith)
      ]

  pub depth-ended : begins e ≡ false → ends e ≡ true → depth_at es (suc p) ≡ depth_at es p - 1
  depth-ended other is =
      let same = count-other begins es p e here other in
      let more = count-is ends es p e here is in
      let step : (q : ℕ) → q ≤ p → rise es (suc p) q ≡ rise es p q - 1 = λ q within.
      let new = rise-is es (suc p) q in let old = rise-is es p q in let fewer = count-mono (at ends es) q p within in omega arith in
      let top = depth-top es p in
      let down = step top.place top.within in
      let top_is = top.is in
      depth-from es (suc p) (depth_at es p - 1) top.place
      (λ q within. elim (cases_eq q (suc p)) [
        | inl last ↦ let none = rise-here es (suc p) in rw last (omega arith)
        | inr before ↦ let old = depth-above es p q (omega arith) in let same_q = step q (omega arith) in omega arith
      ])
      (let within = top.within in omega arith) (omega arith)

  pub depth-kept : begins e ≡ false → ends e ≡ false → depth_at es (suc p) ≡ depth_at es p
  depth-kept no_begin no_end =
      let same_begins = count-other begins es p e here no_begin in
      let same_ends = count-other ends es p e here no_end in
      let step : (q : ℕ) → rise es (suc p) q ≡ rise es p q = λ q. let new = rise-is es (suc p) q in let old = rise-is es p q in omega arith in
      let top = depth-top es p in
      let top_is = top.is in
      depth-from es (suc p) (depth_at es p) top.place
      (λ q within. elim (cases_eq q (suc p)) [
        | inl last ↦ let none = rise-here es (suc p) in rw last (omega arith)
        | inr before ↦ let old = depth-above es p q (omega arith) in let same_q = step q in omega arith
      ])
      (let within = top.within in omega arith) (step top.place ∙ top.is)

-- ---- the events that mark neither a transaction nor the scope

pub begins-other : (e : Event) → (e ≡ TxBegin → ⊥) → begins e ≡ false
unfolding begins
begins-other TxBegin other = absurd (other refl)
begins-other _ other = refl

pub ends-other : (e : Event) → (e ≡ TxEnd → ⊥) → ends e ≡ false
unfolding ends
ends-other TxEnd other = absurd (other refl)
ends-other _ other = refl

pub opens-other : (e : Event) → (e ≡ CheckStart → ⊥) → opens_scope e ≡ false
unfolding opens_scope
opens-other CheckStart other = absurd (other refl)
opens-other _ other = refl

pub closes-other : (e : Event) → (e ≡ CheckEnd → ⊥) → closes_scope e ≡ false
unfolding closes_scope
closes-other CheckEnd other = absurd (other refl)
closes-other _ other = refl

-- ---- whether a transaction runs

pub inside-from : (es : List Event) (p : ℕ) → 0 < depth_at es p → in_transaction es p ≡ true
unfolding in_transaction
inside-from es p some = lt-ltb 0 (depth_at es p) some

pub outside-from : (es : List Event) (p : ℕ) → depth_at es p ≡ 0 → in_transaction es p ≡ false
unfolding in_transaction
outside-from es p none = le-ltb 0 (depth_at es p) (omega arith)

pub inside-depth : (es : List Event) (p : ℕ) → in_transaction es p ≡ true → 0 < depth_at es p
unfolding in_transaction
inside-depth es p inside = ltb-true 0 (depth_at es p) inside

pub inside-kept : (es : List Event) (p : ℕ) (e : Event) → event_at es (suc p) ≡ Some e → begins e ≡ false → ends e ≡ false → in_transaction es (suc p) ≡ in_transaction es p
unfolding in_transaction
inside-kept es p e here no_begin no_end = ap (λ d. nat_lt 0 d) (depth-kept es p e here no_begin no_end)

-- ---- the bytes that are backed up

-- the last place at which no transaction runs, where none runs now
pub outside-here : (es : List Event) (p : ℕ) → in_transaction es p ≡ false → greatest (is_outside es) p ≡ p
unfolding is_outside
outside-here es zero outside = greatest-zero (is_outside es)
outside-here es (suc p) outside = greatest-step (is_outside es) p ∙ ap (λ v. if not v then suc p else greatest (is_outside es) p) outside

-- and where one runs
pub outside-kept : (es : List Event) (p : ℕ) → in_transaction es (suc p) ≡ true → greatest (is_outside es) (suc p) ≡ greatest (is_outside es) p
unfolding is_outside
outside-kept es p inside = greatest-step (is_outside es) p ∙ ap (λ v. if not v then suc p else greatest (is_outside es) p) inside

pub outside-below : (es : List Event) (p : ℕ) → in_transaction es p ≡ true → greatest (is_outside es) p < p
outside-below es zero inside = let some = inside-depth es 0 inside in let none = depth-start es in absurd (omega arith)
outside-below es (suc p) inside = let same = outside-kept es p inside in let bound = greatest-bound (is_outside es) p in omega arith

module _ (es : List Event) (p : ℕ) (e : Event) (here : event_at es (suc p) ≡ Some e) (b : ℕ) where
  -- an outermost transaction begins with nothing backed up
  pub backed-begun : in_transaction es p ≡ false → in_transaction es (suc p) ≡ true → adds b e ≡ false → is_backed es (suc p) b ≡ false
  unfolding is_backed
  backed-begun outside inside other =
      let same = outside-kept es p inside ∙ outside-here es p outside in
      let before = last-other (adds b) es p e here other in
      let bound = last-bound (adds b) es p in
      le-ltb (greatest (is_outside es) (suc p)) (last (adds b) es (suc p) - 1) (omega arith)

  pub backed-added : in_transaction es p ≡ true → in_transaction es (suc p) ≡ true → adds b e ≡ true → is_backed es (suc p) b ≡ true
  unfolding is_backed
  backed-added before inside is =
      let same = outside-kept es p inside in
      let below = outside-below es p before in
      let now = last-here (adds b) es p e here is in
      lt-ltb (greatest (is_outside es) (suc p)) (last (adds b) es (suc p) - 1) (omega arith)

  pub backed-kept : in_transaction es (suc p) ≡ true → adds b e ≡ false → is_backed es (suc p) b ≡ is_backed es p b
  unfolding is_backed
  backed-kept inside other =
      ap (λ g. nat_lt g (last (adds b) es (suc p) - 1)) (outside-kept es p inside)
      ∙ ap (λ l. nat_lt (greatest (is_outside es) p) (l - 1)) (last-other (adds b) es p e here other)

-- ---- the scope

pub scope-start : (es : List Event) → scope_at es 0 ≡ 0
unfolding scope_at
scope-start es = least-zero (opens_after es (last closes_scope es 0))

pub scope-bound : (es : List Event) (p : ℕ) → scope_at es p ≤ p
unfolding scope_at
scope-bound es p = least-bound (opens_after es (last closes_scope es p)) p

pub scope-some : (es : List Event) (p : ℕ) → in_scope es p ≡ true → 0 < scope_at es p
unfolding in_scope
scope-some es p some = ltb-true 0 (scope_at es p) some

pub scope-none : (es : List Event) (p : ℕ) → in_scope es p ≡ false → scope_at es p ≡ 0
unfolding in_scope
scope-none es p none = let small = ltb-false 0 (scope_at es p) none in omega arith

pub scoped-from : (es : List Event) (p : ℕ) → 0 < scope_at es p → in_scope es p ≡ true
unfolding in_scope
scoped-from es p some = lt-ltb 0 (scope_at es p) some

pub unscoped-from : (es : List Event) (p : ℕ) → scope_at es p ≡ 0 → in_scope es p ≡ false
unfolding in_scope
unscoped-from es p none = le-ltb 0 (scope_at es p) (omega arith)

pub in_scope-same : (es : List Event) (p q : ℕ) → scope_at es q ≡ scope_at es p → in_scope es q ≡ in_scope es p
unfolding in_scope
in_scope-same es p q same = ap (λ k. nat_lt 0 k) same

pub some-or : (n m : ℕ) → 0 < n → (if nat_lt 0 n then n else m) ≡ n
some-or n m some = ap (λ v. if v then n else m) (lt-ltb 0 n some)

pub zero-or : (n m : ℕ) → n ≡ 0 → (if nat_lt 0 n then n else m) ≡ m
zero-or n m none = ap (λ v. if v then n else m) (le-ltb 0 n (omega arith))

module _ (es : List Event) (p : ℕ) (e : Event) (here : event_at es (suc p) ≡ Some e) where
  opens_after-next : (k : ℕ) → k ≤ p → opens_after es k (suc p) ≡ opens_scope e
  unfolding opens_after
  opens_after-next k before = ap (λ v. v && at opens_scope es (suc p)) (lt-ltb k (suc p) (omega arith)) ∙ at-is opens_scope es (suc p) (Some e) here

  scope-step : closes_scope e ≡ false → scope_at es (suc p) ≡ (if nat_lt 0 (scope_at es p) then scope_at es p else (if opens_scope e then suc p else 0))
  unfolding scope_at
  scope-step other =
      let test = opens_after es (last closes_scope es p) in
      ap (λ k. least (opens_after es k) (suc p)) (last-other closes_scope es p e here other)
      ∙ least-step test p
      ∙ ap (λ v. if nat_lt 0 (least test p) then least test p else (if v then suc p else 0)) (opens_after-next (last closes_scope es p) (last-bound closes_scope es p))

  pub scope-stays : closes_scope e ≡ false → 0 < scope_at es p → scope_at es (suc p) ≡ scope_at es p
  scope-stays other some = scope-step other ∙ some-or (scope_at es p) (if opens_scope e then suc p else 0) some

  pub scope-opened : closes_scope e ≡ false → opens_scope e ≡ true → scope_at es p ≡ 0 → scope_at es (suc p) ≡ suc p
  scope-opened other is none =
      scope-step other ∙ zero-or (scope_at es p) (if opens_scope e then suc p else 0) none ∙ ap (λ v. if v then suc p else 0) is

  pub scope-kept : closes_scope e ≡ false → opens_scope e ≡ false → scope_at es (suc p) ≡ scope_at es p
  scope-kept other no_start = elim (cases_eq (scope_at es p) 0) [
    | inl none ↦ scope-step other ∙ zero-or (scope_at es p) (if opens_scope e then suc p else 0) none ∙ ap (λ v. if v then suc p else 0) no_start ∙ sym none
    | inr some ↦ scope-stays other (omega arith)
  ]

  pub scope-closed : closes_scope e ≡ true → scope_at es (suc p) ≡ 0
  unfolding scope_at opens_after
  scope-closed is =
      let test = opens_after es (suc p) in
      let none = least-none_behind test (suc p) (λ k is_behind. ltb-true (suc p) k (and_parts (nat_lt (suc p) k) (at opens_scope es k) is_behind).0) in
      ap (λ k. least (opens_after es k) (suc p)) (last-here closes_scope es p e here is) ∙ none

-- ---- the scope's bytes

-- without a scope no byte is one of its
pub not_scoped : (es : List Event) (p b : ℕ) → in_scope es p ≡ false → is_scoped es p b ≡ false
unfolding is_scoped
not_scoped es p b none = ap (λ v. v && nat_lt (scope_at es p) (greatest (stores_inside es b) p)) none

-- a scope that was opened just now has no bytes
pub scoped-opened : (es : List Event) (p b : ℕ) → scope_at es p ≡ p → is_scoped es p b ≡ false
unfolding is_scoped
scoped-opened es p b now =
    let bound = greatest-bound (stores_inside es b) p in
    ap (λ v. in_scope es p && v) (le-ltb (scope_at es p) (greatest (stores_inside es b) p) (omega arith)) ∙ and-false (in_scope es p)

module _ (es : List Event) (p : ℕ) (e : Event) (here : event_at es (suc p) ≡ Some e) (b : ℕ) where
  stores_inside-next : stores_inside es b (suc p) ≡ (stores b e && in_transaction es (suc p))
  unfolding stores_inside
  stores_inside-next = ap (λ v. v && in_transaction es (suc p)) (at-is (stores b) es (suc p) (Some e) here)

  pub scoped-kept : scope_at es (suc p) ≡ scope_at es p → (stores b e && in_transaction es (suc p)) ≡ false → is_scoped es (suc p) b ≡ is_scoped es p b
  unfolding is_scoped
  scoped-kept same other =
      let before : greatest (stores_inside es b) (suc p) ≡ greatest (stores_inside es b) p =
      greatest-step (stores_inside es b) p ∙ ap (λ v. if v then suc p else greatest (stores_inside es b) p) (stores_inside-next ∙ other) in
      ap (λ v. v && nat_lt (scope_at es (suc p)) (greatest (stores_inside es b) (suc p))) (in_scope-same es p (suc p) same)
      ∙ ap (λ k. in_scope es p && nat_lt k (greatest (stores_inside es b) (suc p))) same
      ∙ ap (λ g. in_scope es p && nat_lt (scope_at es p) g) before

  pub scoped-stored : scope_at es (suc p) ≡ scope_at es p → in_scope es p ≡ true → (stores b e && in_transaction es (suc p)) ≡ true → is_scoped es (suc p) b ≡ true
  unfolding is_scoped
  scoped-stored same some is =
      let now : greatest (stores_inside es b) (suc p) ≡ suc p =
      greatest-step (stores_inside es b) p ∙ ap (λ v. if v then suc p else greatest (stores_inside es b) p) (stores_inside-next ∙ is) in
      let bound = scope-bound es p in
      and_from _ _ (in_scope-same es p (suc p) same ∙ some) (lt-ltb (scope_at es (suc p)) (greatest (stores_inside es b) (suc p)) (omega arith))

-- a byte of the scope is written, also one event later
pub scoped-written : (es : List Event) (p b : ℕ) → is_scoped es p b ≡ true → 0 < last_store es (suc p) b
unfolding is_scoped stores_inside last
scoped-written es p b scoped =
    let g = greatest (stores_inside es b) p in
    let parts = and_parts (in_scope es p) (nat_lt (scope_at es p) g) scoped in
    let after = ltb-true (scope_at es p) g parts.1 in
    let store = and_parts (at (stores b) es g) (in_transaction es g) (greatest-passes (stores_inside es b) p (omega arith)) in
    let bound = greatest-bound (stores_inside es b) p in
    let above = greatest-above (at (stores b) es) (suc p) g (omega arith) (omega arith) store.0 in omega arith

-- a byte of the scope is left open where it is checked and open
pub left_open-exposed : (es : List Event) (p b : ℕ) → is_scoped es p b ≡ true → is_left_open es p b ≡ is_exposed es (suc p) b
unfolding is_left_open is_exposed is_checked is_included
left_open-exposed es p b scoped =
    ap (λ v. v && is_included es (suc p) b && is_open (interval_at es (suc p) b)) scoped
    ∙ sym (ap (λ v. v && is_included es (suc p) b && is_open (interval_at es (suc p) b)) (lt-ltb 0 (last_store es (suc p) b) (scoped-written es p b scoped)))
