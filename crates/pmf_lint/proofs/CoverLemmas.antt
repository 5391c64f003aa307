-- What later assertions cover, one event further to the front.
use Rattle.std.proofs.{Common.{◌≡◌, ℕ, suc, ◌+◌, ◌-◌, ◌<◌, ◌≤◌, Bool, true, false, not, ◌&&◌, ◌||◌, List, length, sym, ap, ◌∙◌, arith, Option, Some, None, is_some, inl, inr, slice_index_or, slice_set, lt-ltb, le-ltb}, lemmas.Bool.{cases_lt, false≢true}, lemmas.List.{get_or-set_other}, lemmas.Grind.{common_steps, get_or-set_at}}
use Rattle.pmf_event.{specs.declared.event.Event.{Event}, specs.Places.{some_between}, specs.Store.{at, event_at}, specs.Transactions.{closes_scope}, specs.Span.{Extent, covers_byte}, specs.Ranges.{first_from}, proofs.PlacesLemmas.{greatest-bound, greatest-passes, some_between-here}, proofs.EventLemmas.{at-is}, proofs.RangeLemmas.{first_from-same}}
use Rattle.pmf_runs.specs.{declared.members.Members.{Members}, declared.runs.RunMap.{RunMap}, contracts.members.BoolState.TheImpl.{ghosts}, Runs.{state_at, passing, is_between, ChangesBetween}}
use Rattle.pmf_lint.specs.{declared.covering.Later.{Later}, Covering.{names, is_named_after, is_closed_after, is_covered, is_in, is_inside, is_uncovered, lacks_cover, stored_by, StandsAfter}}

none_last : (test : ℕ → Bool) (n : ℕ) → some_between test n (suc n) ≡ false
unfolding some_between
none_last test n = grind (arith, common_steps, le-ltb, greatest-bound)

step_by : (test : ℕ → Bool) (p n : ℕ) (b : Bool) → p < n → test (suc p) ≡ b → some_between test p (suc n) ≡ (b || some_between test (suc p) (suc n))
unfolding some_between
step_by test p n b less is = grind (arith, common_steps, some_between-here, lt-ltb, false≢true, greatest-passes, le-ltb)

pub named_last : (es : List Event) (b : ℕ) → is_named_after es (length es) b ≡ false
unfolding is_named_after
named_last es b = none_last (at (names b) es) (length es)

pub closed_last : (es : List Event) → is_closed_after es (length es) ≡ false
unfolding is_closed_after
closed_last es = none_last (at closes_scope es) (length es)

module _ (es : List Event) (p : ℕ) (e : Event) (here : event_at es (suc p) ≡ Some e) (less : p < length es) where
  pub named_step : (b : ℕ) → is_named_after es p b ≡ (names b e || is_named_after es (suc p) b)
  unfolding is_named_after
  named_step b = step_by (at (names b) es) p (length es) (names b e) less (at-is (names b) es (suc p) (Some e) here)

  pub closed_step : is_closed_after es p ≡ (closes_scope e || is_closed_after es (suc p))
  unfolding is_closed_after
  closed_step = step_by (at closes_scope es) p (length es) (closes_scope e) less (at-is closes_scope es (suc p) (Some e) here)

-- ---- what is kept

pub stands_last : (later : Later) → ((b : ℕ) → state_at later.named b ≡ false) → later.closed ≡ false → (es : List Event) → StandsAfter later es (length es)
stands_last later none open_end es = record { named = λ b. none b ∙ sym (named_last es b); closed = open_end ∙ sym (closed_last es) }

turned : (a c x : Bool) → ((x || a) || c) ≡ ((a || c) || x)
turned a c x = grind (arith, common_steps)

-- one event further to the front
pub stands_before : (old new : Later) (es : List Event) (p : ℕ) (e : Event) (one other : Option Extent) (mid : ℕ → Bool) → event_at es (suc p) ≡ Some e → p < length es → StandsAfter old es (suc p) →
    ((b : ℕ) → names b e ≡ (is_in one b || is_in other b)) → ((b : ℕ) → mid b ≡ (state_at old.named b || is_in one b)) → ((b : ℕ) → state_at new.named b ≡ (mid b || is_in other b)) →
    new.closed ≡ (closes_scope e || old.closed) → StandsAfter new es p
stands_before old new es p e one other mid here less stands spans first second closed = grind (arith, common_steps, turned, named_step, closed_step)

pub put_there : (old new : RunMap Bool Members ghosts) (s : Extent) (first end : ℕ) → first ≡ s.first → end ≡ s.first + s.size → ChangesBetween first end (λ member. true) old new →
    (b : ℕ) → state_at new b ≡ (state_at old b || covers_byte s b)
unfolding is_between
put_there old new s first end at_first at_end changes b = grind (arith, common_steps)

-- ---- a store

other_lacks : (es : List Event) (q : ℕ) (e : Event) → stored_by e ≡ None → lacks_cover es q (Some e) ≡ false
other_lacks es q e is = grind (arith, common_steps)

pub missed : (later : Later) (es : List Event) (p : ℕ) (e : Event) (s : Extent) (inside : Bool) (first end : ℕ) (found : Option ℕ) → event_at es (suc p) ≡ Some e → stored_by e ≡ Some s →
    inside ≡ is_inside es (suc p) → StandsAfter later es (suc p) → first ≡ s.first → end ≡ s.first + s.size → found ≡ first_from (passing (λ member. member) later.named) first (end - first) →
    not (is_some found || (inside && later.closed)) ≡ is_uncovered es (suc p)
unfolding is_uncovered is_covered passing
missed later es p e s inside first end found here is in_both stands at_first at_end found_is = grind (arith, common_steps, first_from-same)

pub missed_none : (es : List Event) (p : ℕ) (e : Event) → event_at es (suc p) ≡ Some e → stored_by e ≡ None → false ≡ is_uncovered es (suc p)
unfolding is_uncovered
missed_none es p e here is = sym (ap (lacks_cover es (suc p)) here ∙ other_lacks es (suc p) e is)

-- ---- marks

-- those before the place stay
pub kept_before : (marks : List Bool) (place k : ℕ) (b d : Bool) → k < place → slice_index_or (slice_set marks place b) k d ≡ slice_index_or marks k d
kept_before marks place k b d before = get_or-set_other marks place k b d (λ same. absurd (omega (arith, same, before)))

-- the marks from the place on, with the place's own
pub marked_from : (test : ℕ → Bool) (marks : List Bool) (place n : ℕ) (b : Bool) → length marks ≡ n → place < n → b ≡ test (suc place) →
    ((k : ℕ) (d : Bool) → suc place ≤ k → k < n → slice_index_or marks k d ≡ test (suc k)) → (k : ℕ) (d : Bool) → place ≤ k → k < n → slice_index_or (slice_set marks place b) k d ≡ test (suc k)
marked_from test marks place n b long within is marked k d from below = elim (cases_lt place k) [
  | inl behind ↦ get_or-set_other marks place k b d (λ same. absurd (omega (arith, same, behind))) ∙ marked k d behind below
  | inr before ↦ (let same : k ≡ place = omega (arith, from, before) in get_or-set_at marks place k b d same (omega (arith, long, within)) ∙ is ∙ ap (λ j. test (suc j)) (sym same))
]

-- both, where each is told by what its own call returned
pub both_are : (both first second one other : Bool) → both ≡ (first && second) → first ≡ one → second ≡ other → both ≡ (one && other)
both_are both first second one other is first_is second_is = is ∙ ap (λ b. b && second) first_is ∙ ap (λ b. one && b) second_is
