-- What the floor of a world keeps, beside the farm that it shows. Defined here.
use Rattle.std.specs.Prelude.{◌≡◌, ◌≢◌, ℕ, ◌+◌, ◌<◌, ◌≤◌, List, length, sum_by, slice_get, Some, None, Result, Ok, Err, IsOk, All}
use Rattle.pmf_event.specs.{declared.profile.Profile.{Profile}, Section.{Trace}}
use Rattle.pmf_verdict.specs.Checked.{Checked, checked_by}
use Rattle.pmf_board.specs.declared.entry.Entry.{Entry}
use Rattle.pmf_ledger.specs.Repeats.{section_at}
use Rattle.pmf_world.specs.{declared.doing.Doing.{Doing}, declared.floor.Message.{Message}, declared.floor.Worker.{Worker}, declared.step.WorldAnswer.{WorldAnswer}, declared.step.WorldFault.{WorldFault}, Turns.{FarmState, Turned}}
use Rattle.pmf_world.specs.declared.doing.Doing.TheVariants as doing
use Rattle.pmf_world.specs.declared.step.WorldFault.TheVariants as fault

-- the profile, the sections, and their farm
pub record FloorValue : Type 0 where
  pub profile : Profile
  pub sections : List Trace
  pub farm : FarmState

-- the verdict of the section of this number
abbrev pub verdict_at : Profile → List Trace → ℕ → Checked
verdict_at profile sections s = checked_by profile (section_at sections s)

-- the message of this number was sent, and this is the verdict of its section
abbrev pub IsSent : Profile → List Trace → List ℕ → ℕ → Checked → Type 0
IsSent profile sections messages m verdict = (s : ℕ) × (slice_get messages m ≡ Some s) × (s < length sections) × (verdict ≡ verdict_at profile sections s)

-- a worker that does nothing and has nothing in its hand
abbrev pub idle : Worker
idle = record { doing = doing.Idle; verdict = None }

-- 1 where the worker has a hand-out of which no message was sent yet, else 0
abbrev pub in_hand : Doing → ℕ
in_hand (doing.HasTask s) = 1
in_hand (doing.HasVerdict s) = 1
in_hand _ = 0

-- the worker's section is there, and its verdict is in its hand where it has one
abbrev pub HasWhatItSays : Profile → List Trace → Worker → Doing → Type 0
HasWhatItSays profile sections w (doing.HasTask s) = s < length sections
HasWhatItSays profile sections w (doing.HasVerdict s) = (s < length sections) × (w.verdict ≡ Some (verdict_at profile sections s))
HasWhatItSays profile sections w (doing.HasSent s) = s < length sections
HasWhatItSays profile sections w _ = Unit {0}

abbrev pub IsWorker : Profile → List Trace → Worker → Type 0
IsWorker profile sections w = HasWhatItSays profile sections w w.doing

-- the message's section is there, and its verdict is that section's
abbrev pub IsMessage : Profile → List Trace → Message → Type 0
IsMessage profile sections m = (m.section < length sections) × (m.verdict ≡ verdict_at profile sections m.section)

-- what is kept fits the sections, and each hand-out has one message at most
pub record IsFloor (profile : Profile) (sections : List Trace) (board : List Entry) (workers : List Worker) (messages : List Message) : Type 0 where
  pub few : length sections ≤ 65536
  pub as_many : length board ≡ length sections
  pub handed : All (λ e. e.handouts ≤ 8) board
  pub counted : length messages + sum_by (λ w. in_hand w.doing) workers ≤ sum_by (λ e. e.handouts) board
  pub workers_are : All (IsWorker profile sections) workers
  pub messages_are : All (IsMessage profile sections) messages

-- the floor has come to this farm, and the rest stays
pub record Becomes (old : FloorValue) (farm : FarmState) (new : FloorValue) : Type 0 where
  pub profile_stays : new.profile ≡ old.profile
  pub sections_stay : new.sections ≡ old.sections
  pub farm_is : new.farm ≡ farm

-- the turn was done, with its answer, or refused, and then the floor is as it was
abbrev pub IsTurned : FloorValue → Turned → Result WorldAnswer WorldFault → FloorValue → Type 0
IsTurned old turn (Ok told) new = (farm : FarmState) × (turn ≡ Ok (told, farm)) × Becomes old farm new
IsTurned old turn (Err refused) new = (turn ≡ Err refused) × (refused ≢ fault.OutOfMemory) × (new ≡ old)

-- the same, or memory was refused to a turn that is not, and then the floor is as it was
abbrev pub IsTurnedIfRoom : FloorValue → Turned → Result WorldAnswer WorldFault → FloorValue → Type 0
IsTurnedIfRoom old turn (Err fault.OutOfMemory) new = IsOk turn × (new ≡ old)
IsTurnedIfRoom old turn result new = IsTurned old turn result new
