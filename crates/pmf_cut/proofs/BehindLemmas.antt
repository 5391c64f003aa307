-- Behind a cut the part goes on as the whole does: it does so at the cut, and after each event more.
use Rattle.std.proofs.{Common.{◌≡◌, ℕ, suc, ◌<◌, ◌≤◌, true, false, not, ◌&&◌, nat_lt, if◌then◌else◌, List, refl, sym, ◌∙◌, ap, arith, Some, lt-ltb, le-ltb, ltb-false}, lemmas.Bool.{false_from_ne_true}}
use Rattle.pmf_event.{specs.declared.event.Event.{Event}, specs.Line.{line_of_byte}, specs.Store.{event_at, stores, is_fence, last_store}, specs.Interval.{interval_at, closing_fence}, specs.Exclusion.{excludes, marks}, specs.Order.{precedes, is_stored_before}, specs.LineBytes.{is_undurable, is_unwritten}, specs.Transactions.{begins, ends, depth_at, in_transaction, adds, is_backed, closes_scope, in_scope, is_scoped}, proofs.EventLemmas.{at-is, last-other, last-here, not_fence_and_store}, proofs.LineBytesLemmas.{lacks-not}, proofs.TransactionLemmas.{depth-begun, depth-ended, depth-kept, inside-kept, outside-here, backed-added, backed-kept, scope-some, scope-none, unscoped-from, scoped-from, scope-stays, scope-opened, scope-kept, scope-closed, in_scope-same, scoped-opened, scoped-kept, scoped-stored, not_scoped}, proofs.WriteBackLemmas.{last-bound}}
use Rattle.pmf_cut.{specs.Alike.{IsCut}, specs.Behind.{SameBytes, SamePairs, SameTransactions, IsBehind}, proofs.StepLemmas.{undurable-stored_to, excluded-step, undurable-stored, undurable-kept, undurable-fenced, unwritten-stored, unwritten-kept, unwritten-flushed, precedes-reopened, precedes-stored, precedes-kept}}

-- ---- at the cut

-- what is undurable is durable before nothing
undurable-precedes : (es : List Event) (p x y : ℕ) → is_undurable es p x ≡ true → precedes (interval_at es p x) (interval_at es p y) ≡ false
unfolding is_undurable
undurable-precedes es p x y is = grind arith

backed-outside : (es : List Event) (p b : ℕ) → in_transaction es p ≡ false → is_backed es p b ≡ false
unfolding is_backed
backed-outside es p b outside = grind (arith, outside-here, last-bound, le-ltb)

depth-outside : (es : List Event) (p : ℕ) → in_transaction es p ≡ false → depth_at es p ≡ 0
unfolding in_transaction
depth-outside es p outside = let small = ltb-false 0 (depth_at es p) outside in omega arith

pub inside-by : (es fs : List Event) (n m : ℕ) → depth_at fs m ≡ depth_at es n → in_transaction fs m ≡ in_transaction es n
unfolding in_transaction
inside-by es fs n m same = ap (λ d. nat_lt 0 d) same

pub behind-cut : (es : List Event) (p : ℕ) (fs : List Event) (q : ℕ) → IsCut es p fs q → IsBehind es p p fs q q
behind-cut es p fs q cut = grind (arith, undurable-stored_to, last-bound, undurable-precedes, depth-outside, backed-outside, not_scoped)

-- ---- one event more

begins_or_ends : (e : Event) → begins e ≡ true → ends e ≡ false
unfolding begins ends
begins_or_ends v0 is = grind arith

adds_or_begins : (b : ℕ) (e : Event) → adds b e ≡ true → begins e ≡ false
unfolding adds begins
adds_or_begins b v1 is = grind arith

adds_or_ends : (b : ℕ) (e : Event) → adds b e ≡ true → ends e ≡ false
unfolding adds ends
adds_or_ends b v1 is = grind arith

module _ (es fs : List Event) (n m : ℕ) (e : Event) (here : event_at es (suc n) ≡ Some e) (there : event_at fs (suc m) ≡ Some e) where
  no_fence : (b : ℕ) → stores b e ≡ true → is_fence e ≡ false
  no_fence b is = false_from_ne_true (is_fence e) (λ fence. not_fence_and_store es b (suc n) (at-is is_fence es (suc n) (Some e) here ∙ fence) (at-is (stores b) es (suc n) (Some e) here ∙ is))

  bytes-step : SameBytes es n fs m → SameBytes es (suc n) fs (suc m)
  bytes-step same = record {
    excluded = λ b. excluded-step fs m b e there ∙ ap (λ v. if marks b e then excludes b e else v) (same.excluded b) ∙ sym (excluded-step es n b e here);
    undurable = λ b. elim (stores b e) as (λ v. stores b e ≡ v → is_undurable fs (suc m) b ≡ is_undurable es (suc n) b) [
      | true ↦ λ is. undurable-stored fs m b e there is ∙ sym (undurable-stored es n b e here is)
      | false ↦ grind (arith, undurable-fenced, undurable-kept)
    ] refl;
    unwritten = λ b. elim (stores b e) as (λ v. stores b e ≡ v → is_unwritten fs (suc m) b ≡ is_unwritten es (suc n) b) [
      | true ↦ λ is. unwritten-stored fs m b e there is ∙ sym (unwritten-stored es n b e here is)
      | false ↦ grind (arith, unwritten-flushed, unwritten-kept)
    ] refl;
  }

  -- a byte that the part knows, and that is not stored to now, was known before
  known-before : (b : ℕ) → stores b e ≡ false → 0 < last_store fs (suc m) b → 0 < last_store fs m b
  known-before b other known = let same = last-other (stores b) fs m e there other in omega arith

  -- which of two bytes was stored to first, after one event more
  before-step : (gs : List Event) (k x y : ℕ) → event_at gs (suc k) ≡ Some e →
      is_stored_before gs (suc k) x y ≡ (if stores y e then not (stores x e) else (if stores x e then false else is_stored_before gs k x y))
  unfolding is_stored_before
  before-step gs k x y now = grind (arith, nat_lt, last-here, le-ltb, last-other, last-bound, lt-ltb)

  -- what the part does not know a store of is durable
  durable : (b : ℕ) → last_store fs m b ≡ 0 → is_undurable fs m b ≡ false
  unfolding is_undurable
  durable b none = lacks-not (last_store fs m b) (closing_fence (stores b) (line_of_byte b) fs m) (λ some. absurd (omega arith))

  old-step : SameBytes es n fs m → (p q : ℕ) → p ≤ n → SamePairs es p n fs q m → (x y : ℕ) → last_store fs (suc m) x ≡ 0 → 0 < last_store es (suc n) x → p < last_store es (suc n) y →
      precedes (interval_at es (suc n) x) (interval_at es (suc n) y) ≡ true
  old-step same p q within pairs x y unknown stored behind = grind (arith, last-here, last-other, precedes-stored, no_fence, durable, precedes-kept)

  pairs-step : SameBytes es n fs m → (p q : ℕ) → p ≤ n → SamePairs es p n fs q m → SamePairs es p (suc n) fs q (suc m)
  pairs-step same p q within pairs = grind (arith, last-here, known-before, last-other, durable, old-step, precedes-reopened, precedes-stored, no_fence, precedes-kept, before-step)

  depth-step : depth_at fs m ≡ depth_at es n → depth_at fs (suc m) ≡ depth_at es (suc n)
  depth-step same = grind (arith, depth-begun, begins_or_ends, depth-ended, depth-kept)

  backed-step : depth_at fs m ≡ depth_at es n → (b : ℕ) → is_backed fs m b ≡ is_backed es n b → is_backed fs (suc m) b ≡ is_backed es (suc n) b
  backed-step same b backed =
      let inside = inside-by es fs (suc n) (suc m) (depth-step same) in
      elim (in_transaction es (suc n)) as (λ v. in_transaction es (suc n) ≡ v → is_backed fs (suc m) b ≡ is_backed es (suc n) b) [
        | false ↦ λ outside. backed-outside fs (suc m) b (inside ∙ outside) ∙ sym (backed-outside es (suc n) b outside)
        | true ↦ λ runs. elim (adds b e) as (λ v. adds b e ≡ v → is_backed fs (suc m) b ≡ is_backed es (suc n) b) [
          | true ↦ grind (arith, inside-kept, adds_or_begins, adds_or_ends, backed-added, inside-by)
          | false ↦ λ other. backed-kept fs m e there b (inside ∙ runs) other ∙ backed ∙ sym (backed-kept es n e here b runs other)
        ] refl
      ] refl

  -- the scope after the event, in both
  transactions-step : (p q : ℕ) → SameTransactions es p n fs q m → SameTransactions es p (suc n) fs q (suc m)
  transactions-step p q same =
      let shift = same.shift in
      let depth = depth-step same.depth in
      let inside = inside-by es fs (suc n) (suc m) depth in
      let backed = λ (b : ℕ). backed-step same.depth b (same.backed b) in
      elim (closes_scope e) as (λ v. closes_scope e ≡ v → SameTransactions es p (suc n) fs q (suc m)) [
        | true ↦ grind (arith, unscoped-from, scope-closed, not_scoped)
        | false ↦ λ other. elim (in_scope es n) as (λ v. in_scope es n ≡ v → SameTransactions es p (suc n) fs q (suc m)) [
          | true ↦ λ some.
              let stays = scope-stays es n e here other (scope-some es n some) in
              let stays_there = scope-stays fs m e there other (scope-some fs m (same.scope ∙ some)) in
              let opened = same.opened some in record {
                shift = omega arith;
                depth = depth;
                backed = backed;
                scope = in_scope-same fs m (suc m) stays_there ∙ same.scope ∙ sym (in_scope-same es n (suc n) stays);
                opened = λ is. omega arith;
                scoped = λ b. elim (stores b e && in_transaction es (suc n)) as (λ v. (stores b e && in_transaction es (suc n)) ≡ v → is_scoped fs (suc m) b ≡ is_scoped es (suc n) b) [
                  | true ↦ λ is. scoped-stored fs m e there b stays_there (same.scope ∙ some) (ap (λ v. stores b e && v) inside ∙ is) ∙ sym (scoped-stored es n e here b stays some is)
                  | false ↦ λ is. scoped-kept fs m e there b stays_there (ap (λ v. stores b e && v) inside ∙ is) ∙ same.scoped b ∙ sym (scoped-kept es n e here b stays is)
                ] refl;
              }
          | false ↦ grind (arith, scope-none, scope-opened, scoped-from, scoped-opened, unscoped-from, scope-kept, not_scoped)
        ] refl
      ] refl

  pub behind-step : (p q : ℕ) → p ≤ n → IsBehind es p n fs q m → IsBehind es p (suc n) fs q (suc m)
  behind-step p q within behind = search (arith, bytes-step, pairs-step, transactions-step)
