-- The two walks of the transaction checker: none so far, and the first from here.
use Rattle.std.proofs.{Common.{◌≡◌, ℕ, ◌+◌, ◌-◌, ◌<◌, ◌≤◌, Bool, true, false, not, ◌&&◌, List, refl, sym, ◌∙◌, ap, arith, inl, inr, Option, Some, None, unwrap_or}, lemmas.Bool.{cases_lt, cases_eq, both_ways, not-true, not-false, and_from}}
use Rattle.pmf_event.{specs.declared.event.Event.{Event}, specs.declared.span.TheConstants.{ADDRESS_LIMIT}, specs.Ranges.{first_from}, specs.Exclusion.{is_included}, specs.Interval.{interval_at, is_open}, specs.Persist.{is_checked, is_exposed}, specs.Transactions.{in_transaction, is_backed, in_scope, is_scoped}, proofs.RangeLemmas.{IsFirst, first_from-none, first_from-some, none-passes, first-passes}}
use Rattle.pmf_runs.specs.{declared.members.Members.{Members}, declared.runs.RunMap.{RunMap}, declared.state.State.{Ghosts}, Runs.{state_at, passing}}
use Rattle.pmf_shadow.specs.{declared.shadow.Shadow.{Shadow}, Shadow.{StandsFor}}
use Rattle.pmf_txcheck.specs.{declared.state.TxState.{TxState}, Findings.{lacks_backup_by, is_left_open_by}, Tracking.{Tracks}}

-- none of the numbers from first up to this one passes
abbrev pub NoneUpTo : (ℕ → Bool) → ℕ → ℕ → Type 0
NoneUpTo test first at = (k : ℕ) → first ≤ k → k < at → test k ≡ false

module _ (test : ℕ → Bool) where
  pub none-from_none_up_to : (first end at : ℕ) → NoneUpTo test first at → end ≤ at → None ≡ first_from test first (end - first)
  none-from_none_up_to first end at none past = sym (first_from-none test first (end - first) (λ k low high. none k low (omega arith)))

  pub first-from_none_up_to : (first end at : ℕ) → NoneUpTo test first at → first ≤ at → at < end → test at ≡ true → Some at ≡ first_from test first (end - first)
  first-from_none_up_to first end at none from within is =
      sym (first_from-some test first (end - first) at (record { from = from; within = omega arith; passes = is; before = none }))

-- ---- a run of members of a set, or of numbers that are no members

-- from here up to the first number that passes, or up to the end
record Passing (test : ℕ → Bool) (at end found : ℕ) : Type 0 where
  some : at < found
  within : found ≤ end
  before : (j : ℕ) → at ≤ j → j < found → test j ≡ false

passing-end : (test : ℕ → Bool) (at end until : ℕ) (found : Option ℕ) → at < end → test at ≡ false →
    found ≡ first_from test at (end - at) → until ≡ unwrap_or found end → Passing test at end until
passing-end test at end until None below fails is at_end = record {
  some = omega arith;
  within = omega arith;
  before = λ j low high. none-passes test at (end - at) (sym is) j low (omega arith);
}
passing-end test at end until (Some k) below fails is at_end =
    let found = first-passes test at (end - at) k (sym is) in
    let from = found.from in
    let within = found.within in
    let same : until ≡ k = at_end in record {
      some = elim (cases_eq at k) [
        | inl here ↦ absurd (both_ways (test k) (ap test (sym here) ∙ fails) found.passes)
        | inr other ↦ omega arith
      ];
      within = omega arith;
      before = λ j low high. found.before j low (omega arith);
    }

-- from first up to here all numbers are alike, and those before, from where the search began, are not
pub record IsRun {laws : Ghosts Bool Members} (set : RunMap Bool Members laws) (alike : Bool) (at end first until : ℕ) : Type 0 where
  pub from : at ≤ first
  pub some : first < until
  pub within : until ≤ end
  pub before : (j : ℕ) → at ≤ j → j < first → state_at set j ≡ not alike
  pub all : (j : ℕ) → first ≤ j → j < until → state_at set j ≡ alike

module _ {laws : Ghosts Bool Members} (set : RunMap Bool Members laws) (at end first until : ℕ) (found_first found_end : Option ℕ) where
  pub run-of_members : found_first ≡ first_from (passing (λ member. member) set) at (end - at) → found_first ≡ Some first →
      found_end ≡ first_from (passing (λ member. not member) set) first (end - first) → until ≡ unwrap_or found_end end → IsRun set true at end first until
  unfolding passing
  run-of_members is some is_end at_until =
      let start = first-passes _ at (end - at) first (sym is ∙ some) in
      let from = start.from in
      let within = start.within in
      let run = passing-end _ first end until found_end (omega arith) (ap not start.passes) is_end at_until in record {
        from = from;
        some = run.some;
        within = run.within;
        before = start.before;
        all = λ j low high. not-false (state_at set j) (run.before j low high);
      }

  pub run-of_others : found_first ≡ first_from (passing (λ member. not member) set) at (end - at) → found_first ≡ Some first →
      found_end ≡ first_from (passing (λ member. member) set) first (end - first) → until ≡ unwrap_or found_end end → IsRun set false at end first until
  unfolding passing
  run-of_others is some is_end at_until =
      let start = first-passes _ at (end - at) first (sym is ∙ some) in
      let from = start.from in
      let within = start.within in
      let run = passing-end _ first end until found_end (omega arith) (not-true (state_at set first) start.passes) is_end at_until in record {
        from = from;
        some = run.some;
        within = run.within;
        before = λ j low high. not-false (state_at set j) (start.before j low high);
        all = run.before;
      }

module _ {laws : Ghosts Bool Members} (set : RunMap Bool Members laws) (at end : ℕ) (found : Option ℕ) where
  -- no run of members, or of others, is left
  pub no-members : found ≡ first_from (passing (λ member. member) set) at (end - at) → found ≡ None → (j : ℕ) → at ≤ j → j < end → state_at set j ≡ false
  unfolding passing
  no-members is none j low high = none-passes _ at (end - at) (sym is ∙ none) j low (omega arith)

  pub no-others : found ≡ first_from (passing (λ member. not member) set) at (end - at) → found ≡ None → (j : ℕ) → at ≤ j → j < end → state_at set j ≡ true
  unfolding passing
  no-others is none j low high = not-false (state_at set j) (none-passes _ at (end - at) (sym is ∙ none) j low (omega arith))

-- ---- one byte, by two lists

-- a byte that is included and whose interval is open has been written, so it is exposed
included-exposed : (es : List Event) (p b : ℕ) → (is_included es p b && is_open (interval_at es p b)) ≡ is_exposed es p b
unfolding is_exposed is_checked is_included
included-exposed es p b = grind arith

module _ (es : List Event) (p : ℕ) (fs : List Event) (q b : ℕ) where
  bare-excluded : is_included fs q b ≡ false → lacks_backup_by es p fs q b ≡ false
  unfolding lacks_backup_by
  bare-excluded out = ap (λ v. v && not (is_backed es p b)) out

  bare-backed : is_backed es p b ≡ true → lacks_backup_by es p fs q b ≡ false
  unfolding lacks_backup_by
  bare-backed backed = elim (is_included fs q b) as (λ v. (v && not (is_backed es p b)) ≡ false) [ true ↦ ap not backed | false ↦ refl ]

  bare-from : is_included fs q b ≡ true → is_backed es p b ≡ false → lacks_backup_by es p fs q b ≡ true
  unfolding lacks_backup_by
  bare-from included out = and_from _ _ included (ap not out)

  -- a byte of the scope is left open where it is included and its interval is open
  left_open-scoped : is_scoped es p b ≡ true → is_left_open_by es p fs q b ≡ is_exposed fs q b
  unfolding is_left_open_by is_exposed is_checked is_included
  left_open-scoped scoped = ap (λ v. v && is_included fs q b && is_open (interval_at fs q b)) scoped ∙ included-exposed fs q b

  left_open-none : is_scoped es p b ≡ false → is_left_open_by es p fs q b ≡ false
  unfolding is_left_open_by
  left_open-none other = ap (λ v. v && is_included fs q b && is_open (interval_at fs q b)) other

-- ---- the walk over bytes that are not backed up

-- none from first up to here lacks a backup
pub record NoneBare (state : TxState) (shadow : Shadow) (first at : ℕ) : Type 0 where
  pub from : first ≤ at
  pub none : (told tells : ℕ → ℕ) (es fs : List Event) (p q : ℕ) → Tracks state told es p → in_transaction es p ≡ true → StandsFor shadow tells fs q → NoneUpTo (lacks_backup_by es p fs q) first at

module _ (state : TxState) (told : ℕ → ℕ) (es fs : List Event) (p q : ℕ) (tracks : Tracks state told es p) (inside : in_transaction es p ≡ true) where
  -- over bytes that are excluded
  pub bare-over_excluded : (first at m byte : ℕ) → NoneUpTo (lacks_backup_by es p fs q) first at → IsFirst (is_included fs q) at m byte → NoneUpTo (lacks_backup_by es p fs q) first byte
  bare-over_excluded first at m byte none included k low high = elim (cases_lt k at) [
    | inl before ↦ none k low before
    | inr after ↦ bare-excluded es p fs q k (included.before k after high)
  ]

  pub bare-all_excluded : (first at m : ℕ) → NoneUpTo (lacks_backup_by es p fs q) first at → first_from (is_included fs q) at m ≡ None → NoneUpTo (lacks_backup_by es p fs q) first (at + m)
  bare-all_excluded first at m none excluded k low high = elim (cases_lt k at) [
    | inl before ↦ none k low before
    | inr after ↦ bare-excluded es p fs q k (none-passes (is_included fs q) at m excluded k after high)
  ]

  -- over bytes that are backed up
  pub bare-over_backed : (first at bare : ℕ) → NoneUpTo (lacks_backup_by es p fs q) first at → ((j : ℕ) → at ≤ j → j < bare → state_at state.backup j ≡ true) → NoneUpTo (lacks_backup_by es p fs q) first bare
  bare-over_backed first at bare none backed k low high = elim (cases_lt k at) [
    | inl before ↦ none k low before
    | inr after ↦ bare-backed es p fs q k (sym (tracks.backup inside k) ∙ backed k after high)
  ]

  pub bare-here : (b : ℕ) → is_included fs q b ≡ true → state_at state.backup b ≡ false → lacks_backup_by es p fs q b ≡ true
  bare-here b included out = bare-from es p fs q b included (sym (tracks.backup inside b) ∙ out)

-- ---- the walk over the scope's bytes

-- none of the scope's bytes before here is left open
pub record NoneOpen (state : TxState) (shadow : Shadow) (at : ℕ) : Type 0 where
  pub within : at ≤ ADDRESS_LIMIT
  pub none : (told tells : ℕ → ℕ) (es fs : List Event) (p q : ℕ) → Tracks state told es p → in_scope es p ≡ true → StandsFor shadow tells fs q → NoneUpTo (is_left_open_by es p fs q) 0 at

module _ (state : TxState) (told : ℕ → ℕ) (es fs : List Event) (p q : ℕ) (tracks : Tracks state told es p) (some : in_scope es p ≡ true) where
  -- over bytes that are none of the scope's
  pub open-over_others : (at first : ℕ) → NoneUpTo (is_left_open_by es p fs q) 0 at → NoneUpTo (state_at state.stored) at first → NoneUpTo (is_left_open_by es p fs q) 0 first
  open-over_others at first none others k low high = elim (cases_lt k at) [
    | inl before ↦ none k low before
    | inr after ↦ left_open-none es p fs q k (sym (tracks.stored some k) ∙ others k after high)
  ]

  -- over bytes of the scope that are not exposed
  pub open-over_closed : (at end : ℕ) → NoneUpTo (is_left_open_by es p fs q) 0 at → ((j : ℕ) → at ≤ j → j < end → state_at state.stored j ≡ true) →
      ((j : ℕ) → at ≤ j → j < end → is_exposed fs q j ≡ false) → NoneUpTo (is_left_open_by es p fs q) 0 end
  open-over_closed at end none members closed k low high = elim (cases_lt k at) [
    | inl before ↦ none k low before
    | inr after ↦ left_open-scoped es p fs q k (sym (tracks.stored some k) ∙ members k after high) ∙ closed k after high
  ]

  pub open-here : (b : ℕ) → state_at state.stored b ≡ true → is_exposed fs q b ≡ true → is_left_open_by es p fs q b ≡ true
  open-here b member exposed = left_open-scoped es p fs q b (sym (tracks.stored some b) ∙ member) ∙ exposed
