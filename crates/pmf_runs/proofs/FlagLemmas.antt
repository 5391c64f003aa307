-- Parts that are yet to be given a flag, by what is done to them.
use Rattle.std.proofs.Common.{arith, ◌≡◌, ◌<◌, ◌≤◌, ℕ, Bool, true, false, refl, sym, ◌∙◌, ap, if◌then◌else◌, Option, None, Some, is_some, IfSome, IfOk, OnOk, OnErr}
use Rattle.pmf_runs.{specs.declared.flagged.Flagged.{Flagged}, specs.Ranks.{SameStates, ChangesWithin, Splits, is_within}, specs.Flags.{given, flagged_state, BeginsPlain, FlaggedJoined}}

module _ {P S : Type 0} (flagged : Bool → S → S) (state : P → S → ℕ → S) where
  pub plain-is : (part : Flagged P) (d : S) (b : ℕ) → part.flag ≡ None → flagged_state flagged state part d b ≡ state part.part d b
  unfolding flagged_state
  plain-is part d b none = ap (λ f. given flagged f (state part.part d b)) none

  pub given-is : (part : Flagged P) (flag : Bool) (d : S) (b : ℕ) → part.flag ≡ Some flag → flagged_state flagged state part d b ≡ flagged flag (state part.part d b)
  unfolding flagged_state
  given-is part flag d b is = ap (λ f. given flagged f (state part.part d b)) is

  pub same-made : (part : P) (made : Flagged P) → made.part ≡ part → made.flag ≡ None → SameStates (state part) (flagged_state flagged state made)
  same-made part made is none = record { states = λ d b. plain-is made d b none ∙ ap (λ p. state p d b) is }

  pub at-is : (part : Flagged P) (s : S) (d : S) (b : ℕ) → s ≡ state part.part d b → given flagged part.flag s ≡ flagged_state flagged state part d b
  unfolding flagged_state
  at-is part s d b is = ap (given flagged part.flag) is

  -- what is asked of all states
  pub asked-plain : {A : Type 0} (ask : (S → ℕ → S) → A) (part : Flagged P) → part.flag ≡ None → ask (state part.part) ≡ ask (flagged_state flagged state part)
  unfolding flagged_state
  asked-plain ask part none = sym (ap (λ f. ask (λ d b. given flagged f (state part.part d b))) none)

  pub asked-given : {A : Type 0} (ask : (S → ℕ → S) → A) (part : Flagged P) (flag : Bool) → part.flag ≡ Some flag → ask (λ d b. flagged flag (state part.part d b)) ≡ ask (flagged_state flagged state part)
  unfolding flagged_state
  asked-given ask part flag is = sym (ap (λ f. ask (λ d b. given flagged f (state part.part d b))) is)

  -- the part has the same states under the same flag
  pub same-part : (old new : Flagged P) → new.flag ≡ old.flag → SameStates (state old.part) (state new.part) → SameStates (flagged_state flagged state old) (flagged_state flagged state new)
  unfolding flagged_state
  same-part old new flag same = record { states = λ d b. ap (λ f. given flagged f (state new.part d b)) flag ∙ ap (given flagged old.flag) (same.states d b) }

  -- the flag is given
  pub same-given : (old new : Flagged P) (flag : Bool) → old.flag ≡ Some flag → new.flag ≡ None → ChangesWithin None None (flagged flag) (state old.part) (state new.part) → SameStates (flagged_state flagged state old) (flagged_state flagged state new)
  unfolding is_within
  same-given old new flag was is changes = record { states = λ d b. plain-is new d b is ∙ changes.states d b ∙ sym (given-is old flag d b was) }

  -- a change of a part that has no flag before it or after it
  pub changes-plain : (old mid new : Flagged P) (from end : Option ℕ) (change : S → S) → SameStates (flagged_state flagged state old) (flagged_state flagged state mid) → mid.flag ≡ None → new.flag ≡ None →
      ChangesWithin from end change (state mid.part) (state new.part) → ChangesWithin from end change (flagged_state flagged state old) (flagged_state flagged state new)
  changes-plain old mid new from end change same none is changes = record {
    states = λ d b. let was = sym (plain-is mid d b none) ∙ same.states d b in
        plain-is new d b is ∙ changes.states d b ∙ ap (λ s. if is_within from end b then change s else s) was;
  }

  given-last : ((first last : Bool) (s : S) → flagged last (flagged first s) ≡ flagged last s) → (before : Option Bool) (flag : Bool) (s : S) → flagged flag (given flagged before s) ≡ flagged flag s
  given-last forgets None flag s = refl
  given-last forgets (Some first) flag s = forgets first flag s

  -- a change sets the flag
  pub changes-set : (change : S → S) (old new : Flagged P) (flag : Bool) → new.part ≡ old.part → new.flag ≡ Some flag → ((s : S) → change s ≡ flagged flag s) → ((first last : Bool) (s : S) → flagged last (flagged first s) ≡ flagged last s) →
      ChangesWithin None None change (flagged_state flagged state old) (flagged_state flagged state new)
  unfolding is_within flagged_state
  changes-set change old new flag part is sets forgets = record {
    states = λ d b. let s = state old.part d b in
        ap (λ p. given flagged new.flag (state p d b)) part ∙ ap (λ f. given flagged f s) is ∙ sym (given-last forgets old.flag flag s) ∙ sym (sets (given flagged old.flag s));
  }

  pub same-plain : (old mid new : Flagged P) → SameStates (flagged_state flagged state old) (flagged_state flagged state mid) → mid.flag ≡ None → new.flag ≡ None →
      SameStates (state mid.part) (state new.part) → SameStates (flagged_state flagged state old) (flagged_state flagged state new)
  same-plain old mid new same none is kept = record { states = λ d b. plain-is new d b is ∙ kept.states d b ∙ sym (plain-is mid d b none) ∙ same.states d b }

  pub splits-part : (old low high : Flagged P) (middle : ℕ) → low.flag ≡ old.flag → high.flag ≡ old.flag → Splits middle (state old.part) (state low.part) (state high.part) →
      Splits middle (flagged_state flagged state old) (flagged_state flagged state low) (flagged_state flagged state high)
  unfolding flagged_state
  splits-part old low high middle first second splits = record {
    below = λ d b le. ap (λ f. given flagged f (state low.part d b)) first ∙ ap (given flagged old.flag) (splits.below d b le);
    above = λ d b le. ap (λ f. given flagged f (state high.part d b)) second ∙ ap (given flagged old.flag) (splits.above d b le);
  }

module _ {P : Type 0} where
  -- no flag is yet to be given where a run begins at a bound
  pub plain-bound : (begins : P → ℕ → Type 0) (part : Flagged P) (from end : Option ℕ) → (is_some from ≡ false → is_some end ≡ false → ⊥) → IfSome from (BeginsPlain begins part) → IfSome end (BeginsPlain begins part) → part.flag ≡ None
  plain-bound begins part (Some first) end other at_first at_end = at_first.plain
  plain-bound begins part None (Some end) other at_first at_end = at_end.plain
  plain-bound begins part None None other at_first at_end = absurd (other refl refl)

  pub joined-plain : (joined : P → Option ℕ → Option ℕ → Type 0) (part : Flagged P) (one other : Option ℕ) → part.flag ≡ None → joined part.part one other → FlaggedJoined joined part one other
  joined-plain joined part one other none but = grind arith
