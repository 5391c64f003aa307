-- A world as contracts see it, and what it stands for. Defined here.
use Rattle.std.specs.Prelude.{◌≡◌, ℕ, ◌<◌, List, [], length, map, get_or, Contains, Ok, Err, IsOk, All}
use Rattle.pmf_event.specs.{declared.profile.Profile.{Profile}, Section.{Trace}}
use Rattle.pmf_ledger.specs.{Gathered.{Holds, IsLedgerOf}, LedgerValue.{LedgerValue}, Repeats.{section_at}}
use Rattle.pmf_world.specs.{declared.step.WorldStep.{WorldStep}, declared.step.WorldAnswer.{WorldAnswer}, declared.step.WorldFault.{WorldFault}, Turns.{FarmState}, Steps.{WorldState, stepped, set_at}}
use Rattle.pmf_world.specs.declared.step.WorldStep.TheVariants as step
use Rattle.pmf_world.specs.declared.step.WorldFault.TheVariants as fault

-- the profile, the sections that were handed in, their farm, and the ledgers
pub record WorldValue : Type 0 where
  pub profile : Profile
  pub sections : List Trace
  pub farm : FarmState
  pub ledgers : List LedgerValue

-- the ledger of this number; of one that there isn't, an empty one
abbrev pub ledger_at : WorldValue → ℕ → LedgerValue
ledger_at w k = get_or w.ledgers k (record { profile = w.profile; sections = [] })

-- the sections of these numbers
abbrev pub sections_at : List Trace → List ℕ → List Trace
sections_at sections numbers = map (section_at sections) numbers

-- a ledger of some of the sections, by the profile
abbrev pub IsOfWorld : Profile → List Trace → LedgerValue → Type 0
IsOfWorld profile sections ledger = (ledger.profile ≡ profile) × ((t : Trace) → Holds ledger t → Contains sections t)

-- the world is this one: its farm is, and each ledger is that of the sections gathered there
pub record StandsFor (world : WorldValue) (state : WorldState) : Type 0 where
  pub farm : world.farm ≡ state.farm
  pub as_many : length world.ledgers ≡ length state.sets
  pub within : All (All (λ s. s < length world.sections)) state.sets
  pub ledgers : (k : ℕ) → k < length world.ledgers → IsLedgerOf world.profile (sections_at world.sections (set_at state k)) (ledger_at world k)

-- the step takes memory: it checks, sends, takes into a ledger or joins
abbrev pub TakesMemory : WorldStep → Type 0
TakesMemory (step.Check worker) = Unit {0}
TakesMemory (step.Send worker) = Unit {0}
TakesMemory (step.Arrive message ledger) = Unit {0}
TakesMemory (step.Join into from) = Unit {0}
TakesMemory _ = ⊥

-- the new world is of the same sections and profile, and whatever the old one stands for, the step comes to this answer there, and the new one stands for the world after it
pub record Steps (old : WorldValue) (newest : WorldStep) (told : WorldAnswer) (new : WorldValue) : Type 0 where
  pub profile_stays : new.profile ≡ old.profile
  pub sections_stay : new.sections ≡ old.sections
  pub follows : (state : WorldState) → StandsFor old state → (after : WorldState) × (stepped state newest ≡ Ok (told, after)) × StandsFor new after

-- whatever the world stands for, the step is refused there for this reason; want of memory comes only where the step takes some, and is not
-- refused there
abbrev pub Refuses : WorldValue → WorldStep → WorldFault → Type 0
Refuses world newest fault.OutOfMemory = TakesMemory newest × ((state : WorldState) → StandsFor world state → IsOk (stepped state newest))
Refuses world newest refused = (state : WorldState) → StandsFor world state → stepped state newest ≡ Err refused
