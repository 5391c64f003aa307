-- Just the rows that count as fail or as a warning have a cause: nothing is lacking only where the line was written back behind the
-- store, and fenced, in time.
use Rattle.std.proofs.{Common.{◌≡◌, ℕ, zero, suc, ◌+◌, ◌-◌, ◌<◌, ◌≤◌, Bool, true, false, not, ◌&&◌, ◌==◌, nat_lt, if◌then◌else◌, List, length, refl, sym, ◌∙◌, ap, arith, subst, inl, inr, Option, Some, None, is_some, is_none, Contains, le-leb, ne_eqb}, lemmas.Bool.{and_from, and_parts, cases_lt, ltb-true}, lemmas.Grind.{common_steps}}
use Rattle.pmf_event.{specs.declared.event.Event.{Event}, specs.declared.event.Event.TheVariants.{Persist, Ordered, CheckEnd}, specs.declared.finding.Finding.{Finding}, specs.declared.finding.Finding.TheVariants.{PersistPass, PersistFail, PersistEmpty, OrderedPass, OrderedFail, OrderedSameLine, OrderedEmpty, FlushDoubled, FlushNeedless, NoBackup, DupLog, CheckPass, CheckFail, TxStillOpen, Unmatched, Outside, Nested, Unopened, Unclosed}, specs.declared.interval.Interval.{Interval}, specs.declared.profile.Profile.{Profile}, specs.declared.span.TheConstants.{ADDRESS_LIMIT}, specs.Span.{Extent}, specs.Line.{line_of_byte}, specs.Places.{least, count, some_between}, specs.Ranges.{first_from, first_byte}, specs.Store.{event_at, at, stores, flushes, is_fence, last, last_store, epoch_of}, specs.Interval.{writes_back, closes, closing_fence, epoch_after, interval_at, is_open}, specs.Persist.{is_checked, is_exposed, pass_unless, persist_finding}, specs.Order.{is_closed_by, precedes, is_ordered, is_unordered, is_certified, least_pair, finding_of_pairs, ordered_finding}, specs.Transactions.{in_scope, in_transaction, depth_at, is_left_open, scope_passes_unless, check_finding}, proofs.PlacesLemmas.{greatest-bound, greatest-passes, least-below, least-passes, count-here, count-mono, some_between-here}, proofs.EventLemmas.{last-other, not_fence_and_store}, proofs.IntervalLemmas.{Closing, no_Closing-from_open}, proofs.RangeLemmas.{first-passes}, proofs.LeastPairLemmas.{pair-from, certified-unordered}}
use Rattle.pmf_verdict.{specs.Outcome.{outcome_of}, specs.Rows.{rows_of}, proofs.KindLemmas.{persist-from_rows, ordered-from_rows, check-from_rows}}
use Rattle.pmf_cause.specs.{declared.lack.Lack.{Lack}, declared.need.Need.{Need}, Cause.{write_back_after, fences_after, fence_after, lack_by, lack_of, need_at, not_durable, of_need, cause_at}, Laws.{asks_why, EachFailureHasItsCause}}

-- ---- where nothing is lacking

nothing_by : (l d w f : ℕ) → lack_by l d w f ≡ None → (l < d) × (0 < w) × (w ≤ d) × (0 < f) × (f ≤ d)
nothing_by l d w f none = grind (arith, common_steps)

pub closing-where_nothing : (es : List Event) (n : Need) → lack_of es n ≡ None → Closing es (line_of_byte n.byte) n.last n.due
unfolding lack_of write_back_after fence_after fences_after writes_back
closing-where_nothing es n none =
    let line = line_of_byte n.byte in
    let w = write_back_after es line n.last in
    let f = fence_after es w in
    let in_time = nothing_by n.last n.due w f none in
    let back = and_parts (nat_lt n.last w) (at (flushes line) es w) (least-passes (writes_back es line n.last) (length es) in_time.1) in
    let fence = and_parts (nat_lt w f) (at is_fence es f) (least-passes (fences_after es w) (length es) in_time.3) in
    record {
      flush = w;
      fence = f;
      after = ltb-true n.last w back.0;
      before = ltb-true w f fence.0;
      within = in_time.4;
      is_flush = back.1;
      is_fence = fence.1;
    }

lacking : (es : List Event) (n : Need) (o : Option Lack) → lack_of es n ≡ o → (o ≡ None → ⊥) → is_some (of_need es (Some n)) ≡ true
lacking es n None is some = absurd (some refl)
lacking es n (Some lack) is some = ap (λ (o : Option Lack). is_some (not_durable n o)) is

lacks-unless : (es : List Event) (n : Need) → (Closing es (line_of_byte n.byte) n.last n.due → ⊥) → is_some (of_need es (Some n)) ≡ true
lacks-unless es n never = lacking es n (lack_of es n) refl (λ none. never (closing-where_nothing es n none))

-- ---- the byte's last store is the same in front of the assertion

still : (es : List Event) (p b : ℕ) (e : Event) → event_at es p ≡ Some e → stores b e ≡ false → last_store es (p - 1) b ≡ last_store es p b
unfolding event_at
still es zero b e here other = let bad : None ≡ Some e = here in cc
still es (suc q) b e here other = let before : suc q - 1 ≡ q = omega arith in ap (λ k. last_store es k b) before ∙ sym (last-other (stores b) es q e here other)

placed : (es : List Event) (p : ℕ) (e : Event) → event_at es p ≡ Some e → suc (p - 1) ≡ p
unfolding event_at
placed es zero e here = let bad : None ≡ Some e = here in cc
placed es (suc q) e here = omega arith

open-lacks : (es : List Event) (p b : ℕ) (e : Event) → event_at es p ≡ Some e → stores b e ≡ false → is_open (interval_at es p b) ≡ true →
    is_some (of_need es (Some (record { byte = b; last = last_store es (p - 1) b; due = suc (p - 1) }))) ≡ true
open-lacks es p b e here other gap = lacks-unless es _ (λ closing.
    no_Closing-from_open es p b gap
    (subst (λ k. Closing es (line_of_byte b) (last_store es p b) k) (placed es p e here)
    (subst (λ k. Closing es (line_of_byte b) k (suc (p - 1))) (still es p b e here other) closing)))

-- ---- a persist assertion, and the end of a scope

fails-persist : (v : Bool) (o : Option ℕ) (b : ℕ) → PersistFail b ≡ (if v then PersistEmpty else pass_unless o) → o ≡ Some b
fails-persist v o b is = grind arith

persist-open : (es : List Event) (p : ℕ) (s : Extent) (b : ℕ) → PersistFail b ≡ persist_finding es p s → is_open (interval_at es p b) ≡ true
unfolding persist_finding is_exposed
persist-open es p s b is =
    let found = fails-persist (is_none (first_byte (is_checked es p) s)) (first_byte (is_exposed es p) s) b is in
    (and_parts (is_checked es p b) (is_open (interval_at es p b)) (first-passes (is_exposed es p) s.first s.size b found).passes).1

fails-check : (u v : Bool) (d : ℕ) (o : Option ℕ) (b : ℕ) → CheckFail b ≡ (if not u then Unopened else if v then TxStillOpen d else scope_passes_unless o) → o ≡ Some b
fails-check u v d o b is = grind arith

left_open-open : (es : List Event) (q b : ℕ) → is_left_open es q b ≡ true → is_open (interval_at es (suc q) b) ≡ true
unfolding is_left_open
left_open-open es q b is = grind (arith, common_steps)

check-open : (es : List Event) (p b : ℕ) → event_at es p ≡ Some CheckEnd → CheckFail b ≡ check_finding es (p - 1) → is_open (interval_at es p b) ≡ true
unfolding event_at check_finding
check-open es zero b here is = let bad : None ≡ Some CheckEnd = here in cc
check-open es (suc q) b here is =
    let before : suc q - 1 ≡ q = omega arith in
    let k = suc q - 1 in
    let found = fails-check (in_scope es k) (in_transaction es k) (depth_at es k) (first_from (is_left_open es k) 0 ADDRESS_LIMIT) b is in
    subst (λ n. is_open (interval_at es (suc n) b) ≡ true) before (left_open-open es k b (first-passes (is_left_open es k) 0 ADDRESS_LIMIT b found).passes)

-- ---- an order assertion

-- a byte whose store was written back and fenced before y's last store is durable before y
closed_by-closing : (es : List Event) (p x k : ℕ) → k ≤ p → (c : Closing es (line_of_byte x) (last_store es p x) k) → c.fence < k →
    is_closed_by (epoch_after es (closing_fence (stores x) (line_of_byte x) es p)) (epoch_of es k) ≡ true
unfolding closing_fence closes epoch_of
closed_by-closing es p x k within c before =
    let line = line_of_byte x in
    let last = last_store es p x in
    let between = some_between-here (at (flushes line) es) last c.fence c.flush c.after c.before c.is_flush in
    let first = least-below (closes es line last) p c.fence (omega (arith, c.before)) (omega (arith, c.within)) (and_from (at is_fence es c.fence) (some_between (at (flushes line) es) last c.fence) c.is_fence between) in
    let fence = least (closes es line last) p in
    let is = and_parts (at is_fence es fence) (some_between (at (flushes line) es) last fence) (least-passes (closes es line last) p first.0) in
    let rise = count-here (at is_fence es) fence first.0 is.0 in
    let more = count-mono (at is_fence es) fence (k - 1) (omega (arith, first.1)) in
    ap (λ v. is_closed_by (if v then None else Some (count (at is_fence es) (fence - 1) + 1)) (count (at is_fence es) (k - 1))) (ne_eqb fence 0 (λ none. omega (arith, first.0)))
    ∙ le-leb (count (at is_fence es) (fence - 1) + 1) (count (at is_fence es) (k - 1)) (omega arith)

precedes-from : (u v : Bool) (x y : Interval) → u ≡ false → v ≡ false → is_closed_by x.closes y.opens ≡ true →
    precedes (if u then None else Some x) (if v then None else Some y) ≡ true
precedes-from u v x y one other is = grind (arith, common_steps)

ordered-from : (profile : Profile) (es : List Event) (p x y : ℕ) → precedes (interval_at es p x) (interval_at es p y) ≡ true → is_ordered profile es p x y ≡ true
unfolding is_ordered
ordered-from profile es p x y is = grind (arith, common_steps)

unordered-parts : (u v w : Bool) → (u && v && not w) ≡ true → (u ≡ true) × (v ≡ true) × (w ≡ false)
unordered-parts u v w is = grind (arith, common_steps)

written : (es : List Event) (p b : ℕ) → is_checked es p b ≡ true → 0 < last_store es p b
unfolding is_checked
written es p b checked = ltb-true 0 (last_store es p b) (and_parts _ _ checked).0

-- x is not written back and fenced by y's last store
pub unordered-open : (profile : Profile) (es : List Event) (p x y : ℕ) → is_unordered profile es p x y ≡ true → Closing es (line_of_byte x) (last_store es p x) (last_store es p y) → ⊥
unfolding is_unordered last
unordered-open profile es p x y is c =
    let parts = unordered-parts (is_checked es p x) (is_checked es p y) (is_ordered profile es p x y) is in
    let one = written es p x parts.0 in
    let other = written es p y parts.1 in
    let n = last_store es p y in
    let bound = greatest-bound (at (stores y) es) p in
    let before : c.fence < n = elim (cases_lt c.fence n) [
      | inl less ↦ less
      | inr more ↦
          let same : c.fence ≡ n = omega (arith, c.within) in
          absurd (not_fence_and_store es y n (subst (λ k. at is_fence es k ≡ true) same c.is_fence) (greatest-passes (at (stores y) es) p other))
    ] in
    let closed = closed_by-closing es p x n bound c before in
    let ordered = ordered-from profile es p x y (precedes-from (last_store es p x == 0) (last_store es p y == 0) _ _ (ne_eqb (last_store es p x) 0 (λ none. omega arith)) (ne_eqb n 0 (λ none. omega arith)) closed) in
    let bad : true ≡ false = sym ordered ∙ parts.2 in cc

fails-ordered : (es : List Event) (p : ℕ) (v w : Bool) (c u : Option (ℕ × ℕ)) (x y n : ℕ) →
    OrderedFail x y n ≡ (if v then OrderedEmpty else if w then OrderedEmpty else finding_of_pairs es p c u) → c ≡ Some (x, y)
fails-ordered es p v w c u x y n is = grind arith

shares-line : (es : List Event) (p : ℕ) (v w : Bool) (c u : Option (ℕ × ℕ)) (x y : ℕ) →
    OrderedSameLine x y ≡ (if v then OrderedEmpty else if w then OrderedEmpty else finding_of_pairs es p c u) → u ≡ Some (x, y)
shares-line es p v w c u x y is = grind arith

module _ (profile : Profile) (es : List Event) (p : ℕ) (a b : Extent) (x y : ℕ) where
  certified : ℕ → ℕ → Bool
  certified = is_certified profile es p

  unordered-fail : (n : ℕ) → OrderedFail x y n ≡ ordered_finding profile es p a b → is_unordered profile es p x y ≡ true
  unfolding ordered_finding certified
  unordered-fail n is =
      let found = fails-ordered es p (is_none (first_byte (is_checked es p) a)) (is_none (first_byte (is_checked es p) b)) (least_pair certified a b) (least_pair (is_unordered profile es p) a b) x y n is in
      certified-unordered profile es p x y (pair-from certified a b x y found).passes

  unordered-same : OrderedSameLine x y ≡ ordered_finding profile es p a b → is_unordered profile es p x y ≡ true
  unfolding ordered_finding certified
  unordered-same is =
      let found = shares-line es p (is_none (first_byte (is_checked es p) a)) (is_none (first_byte (is_checked es p) b)) (least_pair certified a b) (least_pair (is_unordered profile es p) a b) x y is in
      (pair-from (is_unordered profile es p) a b x y found).passes

  unordered-lacks : event_at es p ≡ Some (Ordered a b) → is_unordered profile es p x y ≡ true →
      is_some (of_need es (Some (record { byte = x; last = last_store es (p - 1) x; due = last_store es (p - 1) y }))) ≡ true
  unfolding stores
  unordered-lacks here is = lacks-unless es _ (λ closing.
      unordered-open profile es p x y is
      (subst (λ k. Closing es (line_of_byte x) (last_store es p x) k) (still es p y (Ordered a b) here refl)
      (subst (λ k. Closing es (line_of_byte x) k (last_store es (p - 1) y)) (still es p x (Ordered a b) here refl) closing)))

-- ---- the law

each : (profile : Profile) (es : List Event) (p : ℕ) (f : Finding) → Contains (rows_of profile es) (record { place = p; finding = f }) → is_some (cause_at es (p - 1) f) ≡ asks_why (outcome_of f)
unfolding cause_at need_at stores
each profile es p (PersistFail b) found =
    let own = persist-from_rows profile es p (PersistFail b) found refl in
    open-lacks es p b (Persist own.0) own.1 refl (persist-open es p own.0 b own.2)
each profile es p (CheckFail b) found =
    let own = check-from_rows profile es p (CheckFail b) found refl in
    open-lacks es p b CheckEnd own.0 refl (check-open es p b own.0 own.1)
each profile es p (OrderedFail x y n) found =
    let own = ordered-from_rows profile es p (OrderedFail x y n) found refl in
    unordered-lacks profile es p own.0 own.1 x y own.2 (unordered-fail profile es p own.0 own.1 x y n own.3)
each profile es p (OrderedSameLine x y) found =
    let own = ordered-from_rows profile es p (OrderedSameLine x y) found refl in
    unordered-lacks profile es p own.0 own.1 x y own.2 (unordered-same profile es p own.0 own.1 x y own.3)
each profile es p PersistPass found = refl
each profile es p PersistEmpty found = refl
each profile es p OrderedPass found = refl
each profile es p OrderedEmpty found = refl
each profile es p CheckPass found = refl
each profile es p (FlushDoubled line lines) found = refl
each profile es p (FlushNeedless line lines) found = refl
each profile es p (NoBackup b) found = refl
each profile es p (DupLog b) found = refl
each profile es p (TxStillOpen depth) found = refl
each profile es p Unmatched found = refl
each profile es p Outside found = refl
each profile es p Nested found = refl
each profile es p Unopened found = refl
each profile es p (Unclosed start) found = refl

pub each_failure_has_its_cause : EachFailureHasItsCause
each_failure_has_its_cause profile es row found = each profile es row.place row.finding found
