-- What is kept of a ledger, and what was gathered there.
use Rattle.std.proofs.{Common.{◌≡◌, ℕ, List, [], ◌∷◌, ◌++◌, map, get_or, set, replicate, Some, None, refl, sym, ◌∙◌, ap, subst, inl, inr, ◌⊎◌, ◌↔◌, slice_get, Contains, Option, IsOk, get_or-set_same, arith}, lemmas.List.Elements.{Contains-append_left, Contains-append_right, Contains-append_cases}, lemmas.Option.{same_Some, slice_get_within, get_or_from_slice_get}, lemmas.Grind.{common_steps}}
use Rattle.pmf_ledger.{proofs.lemmas.AddingLemmas.{Contains-cons, Contains-cons_cases, from_map, to_map}, proofs.lemmas.MergingLemmas.{none_of_empty}, specs.Repeats.{section_at}}
use Rattle.pmf_world.specs.{declared.step.WorldStep.{WorldStep}, Turns.{Turned}, Steps.{WorldState, after, arrive_found, join_found, opening_of, set_at, stepped, turned, with_set, world_of}, Laws.{Brings, IsGathered, LedgersAreOfTheGathered, SetsAreOfTheGathered}}
use Rattle.pmf_world.specs.declared.step.WorldStep.TheVariants as step

-- after a set a place is the one that was set and has the new element, or it has what it had
pub get_or-set_cases : {X : Type 0} (xs : List X) (i j : ℕ) (y d : X) → ((j ≡ i) × (get_or (set xs i y) j d ≡ y)) ⊎ (get_or (set xs i y) j d ≡ get_or xs j d)
get_or-set_cases xs i j y d = grind (arith, common_steps)

pub get_or-replicate_default : {X : Type 0} (n k : ℕ) (d : X) → get_or (replicate n d) k d ≡ d
get_or-replicate_default n k d = grind (arith, common_steps)

-- a step that brings nothing
kept : {Has Was None : Type 0} → Has ↔ Was → (None → ⊥) → Has ↔ (Was ⊎ None)
kept same none = (λ has. inl (same.0 has), λ either. elim either [ inl was ↦ same.1 was | inr brought ↦ absurd (none brought) ])

-- a step that was not refused, and what it brings
brought : {Has Was More Fine : Type 0} → Has ↔ (Was ⊎ More) → Fine → Has ↔ (Was ⊎ (Fine × More))
brought gains fine = grind (arith, common_steps)

-- what a step brings to the sets, where section s was in them just where it was gathered
module _ (w : WorldState) (s : ℕ) (WasGatheredAt : ℕ → Type 0) (is : (j : ℕ) → Contains (set_at w j) s ↔ WasGatheredAt j) where
  held_in : {xs ys : List ℕ} → xs ≡ ys → Contains xs s → Contains ys s
  held_in = subst (λ zs. Contains zs s)

  set_gains : (i k : ℕ) (old new : List ℕ) (More : Type 0) → slice_get w.sets i ≡ Some old → Contains new s ↔ (Contains old s ⊎ More) →
      Contains (set_at (with_set w i new) k) s ↔ (WasGatheredAt k ⊎ ((i ≡ k) × More))
  set_gains i k old new More at gains =
      let old_is : (j : ℕ) → j ≡ i → set_at w j ≡ old = λ j here. ap (set_at w) here ∙ get_or_from_slice_get w.sets i old [] at in
      let new_is = get_or-set_same w.sets i new [] (slice_get_within w.sets i old at) in
      elim (get_or-set_cases w.sets i k new []) [
        | inl here ↦ (
          λ held. elim (gains.0 (held_in here.1 held)) [ inl before ↦ inl ((is k).0 (held_in (sym (old_is k here.0)) before)) | inr more ↦ inr (sym here.0, more) ],
          λ either. held_in (sym here.1) (gains.1 (elim either [ inl was ↦ inl (held_in (old_is k here.0) ((is k).1 was)) | inr now ↦ inr now.1 ])),
        )
        | inr other ↦ (
          λ held. inl ((is k).0 (held_in other held)),
          grind (arith, common_steps, held_in),
        )
      ]

  turn_gathers : (t : Turned) (k : ℕ) → Contains (set_at (world_of w (turned w t)) k) s ↔ (WasGatheredAt k ⊎ (IsOk (turned w t) × ⊥))
  turn_gathers t k = grind (arith, common_steps, kept)

  arrive_gathers : (message i k : ℕ) (found : Option ℕ) (set_found : Option (List ℕ)) → slice_get w.farm.messages message ≡ found → slice_get w.sets i ≡ set_found →
      let r = arrive_found w i found set_found in Contains (set_at (world_of w r) k) s ↔ (WasGatheredAt k ⊎ (IsOk r × Brings w WasGatheredAt (step.Arrive message i) k s))
  arrive_gathers message i k None set_found of_message of_set = kept (is k) (λ now. let no = now.0 in cc)
  arrive_gathers message i k (Some x) None of_message of_set = kept (is k) (λ now. let no = now.0 in cc)
  arrive_gathers message i k (Some x) (Some old) of_message of_set =
      brought
      (set_gains i k old (x ∷ old) (slice_get w.farm.messages message ≡ Some s) of_set (
        λ held. elim (Contains-cons_cases s x old held) [ inl same ↦ inr (of_message ∙ ap Some (sym same)) | inr before ↦ inl before ],
        λ either. Contains-cons s x old (elim either [ inl before ↦ inr before | inr here ↦ inl (same_Some s x (sym here ∙ of_message)) ]),
      ))
      refl

  join_gathers : (i from k : ℕ) (own_found other_found : Option (List ℕ)) → slice_get w.sets i ≡ own_found → slice_get w.sets from ≡ other_found →
      let r = join_found w i own_found other_found in Contains (set_at (world_of w r) k) s ↔ (WasGatheredAt k ⊎ (IsOk r × Brings w WasGatheredAt (step.Join i from) k s))
  join_gathers i from k None other_found of_own of_other = kept (is k) (λ now. let no = now.0 in cc)
  join_gathers i from k (Some own) None of_own of_other = kept (is k) (λ now. let no = now.0 in cc)
  join_gathers i from k (Some own) (Some other) of_own of_other =
      let other_is = get_or_from_slice_get w.sets from other [] of_other in
      brought
      (set_gains i k own (own ++ other) (WasGatheredAt from) of_own (
        λ held. elim (Contains-append_cases own other s held) [ inl before ↦ inl before | inr there ↦ inr ((is from).0 (held_in (sym other_is) there)) ],
        grind (arith, common_steps, Contains-append_left, Contains-append_right, held_in),
      ))
      refl

  step_gathers : (newest : WorldStep) (k : ℕ) → Contains (set_at (world_of w (stepped w newest)) k) s ↔ (WasGatheredAt k ⊎ (IsOk (stepped w newest) × Brings w WasGatheredAt newest k s))
  step_gathers (step.Fresh worker section) k = turn_gathers _ k
  step_gathers (step.Again worker section) k = turn_gathers _ k
  step_gathers (step.Check worker) k = turn_gathers _ k
  step_gathers (step.Send worker) k = turn_gathers _ k
  step_gathers (step.Mark worker) k = turn_gathers _ k
  step_gathers (step.Lose worker) k = turn_gathers _ k
  step_gathers (step.Arrive message ledger) k = arrive_gathers message ledger k _ _ refl refl
  step_gathers (step.Join into from) k = join_gathers into from k _ _ refl refl

-- from a world where nothing was gathered
gathered_after : (first : WorldState) → ((k s : ℕ) → Contains (set_at first k) s → ⊥) → (steps : List WorldStep) (k s : ℕ) → Contains (set_at (after first steps) k) s ↔ IsGathered first steps k s
unfolding after IsGathered
gathered_after first none [] k s = (none k s, λ no. absurd no)
gathered_after first none (newest ∷ before) k s = step_gathers (after first before) s (λ j. IsGathered first before j s) (λ j. gathered_after first none before j s) newest k

pub sets_of_gathered : SetsAreOfTheGathered
sets_of_gathered sections workers ledgers steps k s =
    gathered_after (opening_of sections workers ledgers) (λ j x held. none_of_empty [] x refl (subst (λ xs. Contains xs x) (get_or-replicate_default ledgers j []) held)) steps k s

pub ledgers_of_gathered : LedgersAreOfTheGathered
ledgers_of_gathered sections workers ledgers steps world stands k within t =
    let section = section_at world.sections in
    let set = set_at (after (opening_of sections workers ledgers) steps) k in
    let same = (stands.ledgers k within).same t in
    let gathered = sets_of_gathered sections workers ledgers steps k in (
      λ held. let there = from_map section set t (same.0 held) in (there.0, (gathered there.0).0 there.1, there.2),
      λ found. same.1 (subst (Contains (map section set)) found.2 (to_map section set found.0 ((gathered found.0).1 found.1))),
    )
