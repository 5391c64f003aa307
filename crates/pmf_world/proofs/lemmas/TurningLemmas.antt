-- A turn of a worker, on the floor of a world, as a step of the world.
use Rattle.std.proofs.{Common.{◌≡◌, ℕ, List, [], refl, sym, subst, Ok, Err, IfOk, Result, replicate, All, arith}, lemmas.List.Elements.{All-replicate}, lemmas.Grind.{common_steps}}
use Rattle.pmf_event.specs.{declared.profile.Profile.{Profile}, Section.{Trace}}
use Rattle.pmf_verdict.specs.Checked.{checked_by}
use Rattle.pmf_ledger.{specs.LedgerValue.{LedgerValue}, specs.Repeats.{HaveOwnNames}, proofs.lemmas.MergingLemmas.{none_of_empty}}
use Rattle.pmf_world.specs.{declared.step.WorldAnswer.{WorldAnswer}, declared.step.WorldFault.{WorldFault}, declared.step.WorldStep.{WorldStep}, Turns.{FarmState, Turned}, Floors.{FloorValue, IsTurned, IsTurnedIfRoom}, Steps.{WorldState, stepped, turned}, Worlds.{IsOfWorld, Steps, WorldValue}}
use Rattle.pmf_world.specs.declared.step.WorldFault.TheVariants as fault

-- a floor and ledgers, as a world
abbrev pub world_on : FloorValue → List LedgerValue → WorldValue
world_on floor ledgers = record { profile = floor.profile; sections = floor.sections; farm = floor.farm; ledgers = ledgers }

-- what a world keeps of its sections and ledgers
abbrev pub IsKept : FloorValue → List LedgerValue → Type 0
IsKept floor ledgers = HaveOwnNames floor.sections × All (IsOfWorld floor.profile floor.sections) ledgers

module _ (old new : FloorValue) (turn : Turned) (ledgers : List LedgerValue) where
  -- a turn leaves the sections and the ledgers
  pub kept-turned : (r : Result WorldAnswer WorldFault) → IsTurned old turn r new → IsKept old ledgers → IsKept new ledgers
  kept-turned (Ok told) is kept =
      let of_profile = subst (λ p. HaveOwnNames old.sections × All (IsOfWorld p old.sections) ledgers) (sym is.2.profile_stays) kept in
      subst (λ ss. HaveOwnNames ss × All (IsOfWorld new.profile ss) ledgers) (sym is.2.sections_stay) of_profile
  kept-turned (Err refused) is kept = subst (λ f. IsKept f ledgers) (sym is.2) kept

  pub kept-turned_if_room : (r : Result WorldAnswer WorldFault) → IsTurnedIfRoom old turn r new → IsKept old ledgers → IsKept new ledgers
  kept-turned_if_room (Err fault.OutOfMemory) is kept = subst (λ f. IsKept f ledgers) (sym is.1) kept
  kept-turned_if_room r is kept = kept-turned r is kept

module _ (old : WorldValue) (newest : WorldStep) (turn : FarmState → Turned) (floor new : FloorValue) (ledgers : List LedgerValue) (is_old : world_on floor ledgers ≡ old)
    (by : (state : WorldState) → stepped state newest ≡ turned state (turn state.farm)) where
  -- a turn that was done is the step
  pub turn-steps : (r : Result WorldAnswer WorldFault) → IsTurned floor (turn floor.farm) r new → IfOk r (λ told. Steps old newest told (world_on new ledgers))
  turn-steps r is = grind (arith, common_steps)

  pub turn-steps_if_room : (r : Result WorldAnswer WorldFault) → IsTurnedIfRoom floor (turn floor.farm) r new → IfOk r (λ told. Steps old newest told (world_on new ledgers))
  turn-steps_if_room r is = grind (arith, common_steps, turn-steps)

-- empty ledgers are of any sections
pub empties-ours : (profile : Profile) (sections : List Trace) (count : ℕ) → All (IsOfWorld profile sections) (replicate count (record { profile = profile; sections = [] }))
empties-ours profile sections count = All-replicate (IsOfWorld profile sections) count (record { profile = profile; sections = [] }) (refl, λ t held. absurd (none_of_empty [] (checked_by profile t) refl held))
