-- What holds after every list of steps: gathered sections, tasks, and what was sent. Defined here.
use Rattle.std.specs.Prelude.{◌≡◌, ◌≢◌, ◌⊎◌, ◌↔◌, ℕ, ◌<◌, true, List, [], ◌∷◌, ◌++◌, length, slice_get, Some, Ok, IsOk, Contains, AllPairs}
use Rattle.pmf_event.specs.Section.{Trace}
use Rattle.pmf_ledger.specs.{Gathered.{Holds}, Repeats.{section_at}}
use Rattle.pmf_board.specs.Machine.{entry_at}
use Rattle.pmf_event.specs.declared.profile.Profile.{Profile}
use Rattle.pmf_world.specs.{declared.step.WorldStep.{WorldStep}, declared.step.WorldAnswer.{WorldAnswer}, Opening.{IsOpening}, Steps.{WorldState, Stepped, opening_of, stepped, after, set_at}, Worlds.{WorldValue, StandsFor, Steps, ledger_at}}
use Rattle.pmf_world.specs.declared.step.WorldStep.TheVariants as step
use Rattle.pmf_world.specs.declared.step.WorldAnswer.TheVariants as answer

-- the step brings section s to ledger k: a message of it arrives there, or a ledger is joined there at which it was gathered before
abbrev pub Brings : WorldState → (ℕ → Type 0) → WorldStep → ℕ → ℕ → Type 0
Brings w WasGatheredAt (step.Arrive message ledger) k s = (ledger ≡ k) × (slice_get w.farm.messages message ≡ Some s)
Brings w WasGatheredAt (step.Join into from) k s = (into ≡ k) × WasGatheredAt from
Brings w WasGatheredAt _ k s = ⊥

-- section s was gathered at ledger k in one of these steps, the newest of which comes first: one that was not refused brought it there
unfoldable pub IsGathered : WorldState → List WorldStep → ℕ → ℕ → Type 0
IsGathered first [] k s = ⊥
IsGathered first (newest ∷ before) k s =
    IsGathered first before k s
    ⊎ (IsOk (stepped (after first before) newest) × Brings (after first before) (λ j. IsGathered first before j s) newest k s)

-- the task, if any, that a step answered: its section and its number
abbrev pub task_in : Stepped → List (ℕ × ℕ)
task_in (Ok (answer.Task s number, w)) = (s, number) ∷ []
task_in _ = []

-- the tasks that some steps answered, the newest of which comes first
unfoldable pub tasks_in : WorldState → List WorldStep → List (ℕ × ℕ)
tasks_in first [] = []
tasks_in first (newest ∷ before) = task_in (stepped (after first before) newest) ++ tasks_in first before

-- after every list of steps, what is kept of a ledger is just what was gathered there
abbrev pub SetsAreOfTheGathered : Type 0
SetsAreOfTheGathered = (sections workers ledgers : ℕ) (steps : List WorldStep) → let first = opening_of sections workers ledgers in
    (k s : ℕ) → Contains (set_at (after first steps) k) s ↔ IsGathered first steps k s

-- so a world that stands for what is after some steps has at each ledger just the sections gathered there
abbrev pub LedgersAreOfTheGathered : Type 0
LedgersAreOfTheGathered = (sections workers ledgers : ℕ) (steps : List WorldStep) → let first = opening_of sections workers ledgers in
    (world : WorldValue) → StandsFor world (after first steps) → (k : ℕ) → k < length world.ledgers → (t : Trace) →
    Holds (ledger_at world k) t ↔ ((s : ℕ) × IsGathered first steps k s × (section_at world.sections s ≡ t))

-- no two tasks are the same
abbrev pub TasksDiffer : Type 0
TasksDiffer = (sections workers ledgers : ℕ) (steps : List WorldStep) → AllPairs (λ t u. t ≢ u) (tasks_in (opening_of sections workers ledgers) steps)

-- of each section that is done a message was sent
abbrev pub DoneWasSent : Type 0
DoneWasSent = (sections workers ledgers : ℕ) (steps : List WorldStep) → let w = after (opening_of sections workers ledgers) steps in
    (s : ℕ) → (entry_at w.farm.board s).done ≡ true → Contains w.farm.messages s

-- the world stands for some state
abbrev pub StandsForSome : WorldValue → Type 0
StandsForSome world = (state : WorldState) × StandsFor world state

-- a new world stands for some state, and what does so does after each step
abbrev pub WorldsStandForSome : Type 0
WorldsStandForSome =
    ((profile : Profile) (sections : List Trace) (workers ledgers : ℕ) (world : WorldValue) → IsOpening profile sections workers ledgers world → StandsForSome world)
    × ((old new : WorldValue) (newest : WorldStep) (told : WorldAnswer) → Steps old newest told new → StandsForSome old → StandsForSome new)
