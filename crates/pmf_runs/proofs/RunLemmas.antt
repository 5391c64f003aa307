-- The states of a map of runs, by its root.
use Rattle.std.proofs.Common.{arith, ◌≡◌, ◌≤◌, ℕ, sym, ◌∙◌, ap, if◌then◌else◌, None, Some, is_some, false, Result, OnErr}
use Rattle.pmf_runs.{specs.declared.flagged.Flagged.{Flagged}, specs.declared.group.Group.{Group}, specs.declared.level.Level.{Level}, specs.declared.runs.RunMap.{RunMap}, specs.declared.state.State.{Ghosts}, specs.Ranks.{SameStates, ChangesWithin, is_within}, specs.Runs.{root_state, state_within, state_at, is_between, KeepsStates, ChangesBetween}, proofs.RankLemmas.{none-is-any}}

pub on-err : {A E : Type 0} {P : Type 0} (r : Result A E) → P → OnErr r P
on-err r h1 = grind arith

module _ {S M : Type 0} {laws : Ghosts S M} where
  pub gap-is : (runs : RunMap S M laws) (b : ℕ) → runs.root ≡ None → state_at runs b ≡ runs.gap
  unfolding state_at
  gap-is runs b is = ap (λ o. state_within o runs.gap b) is

  pub root-is : (runs : RunMap S M laws) (root : Level (Flagged (Group S M laws))) (b : ℕ) → runs.root ≡ Some root → state_at runs b ≡ root_state root runs.gap b
  unfolding state_at
  root-is runs root b is = ap (λ o. state_within o runs.gap b) is

  pub keeps-root : (old new : RunMap S M laws) (root next : Level (Flagged (Group S M laws))) → old.root ≡ Some root → new.root ≡ Some next → new.gap ≡ old.gap → SameStates (root_state root) (root_state next) → KeepsStates old new
  keeps-root old new root next was is gap same = record {
    states = λ b. root-is new next b is ∙ ap (λ s. root_state next s b) gap ∙ same.states old.gap b ∙ sym (root-is old root b was);
  }

  pub changes-root : (old new : RunMap S M laws) (root next : Level (Flagged (Group S M laws))) (first end : ℕ) (change : S → S) → old.root ≡ Some root → new.root ≡ Some next → new.gap ≡ old.gap →
      ChangesWithin (Some first) (Some end) change (root_state root) (root_state next) → ChangesBetween first end change old new
  unfolding is_within is_between
  changes-root old new root next first end change was is gap changes = record {
    states = λ b.
        root-is new next b is ∙ ap (λ s. root_state next s b) gap ∙ changes.states old.gap b
        ∙ ap (λ s. if is_within (Some first) (Some end) b then change s else s) (sym (root-is old root b was));
  }

  -- a range that ends where it begins, or before
  pub changes-empty : (runs : RunMap S M laws) (first end : ℕ) (change : S → S) → end ≤ first → ChangesBetween first end change runs runs
  unfolding is_between
  changes-empty runs first end change le = grind arith

  pub keeps-made : (old new : RunMap S M laws) (root : Level (Flagged (Group S M laws))) → is_some old.root ≡ false → new.root ≡ Some root → ((d : S) (b : ℕ) → root_state root d b ≡ old.gap) → KeepsStates old new
  keeps-made old new root none is same = record {
    states = λ b. root-is new root b is ∙ same new.gap b ∙ sym (gap-is old b (none-is-any old.root none));
  }
