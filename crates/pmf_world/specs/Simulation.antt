-- What a simulation writes of a log and a schedule, and what it refuses. Defined here.
use Rattle.std.specs.Prelude.{◌≡◌, ◌≢◌, ◌⊎◌, ℕ, ◌<◌, ◌≤◌, List, [], ◌++◌, length, reverse, Ok, Err}
use Rattle.pmf_event.specs.{declared.profile.Profile.TheVariants.{One}, Section.{Trace}}
use Rattle.pmf_storelog.specs.{LogText.{log_of, out_of_memory}, LogValue.{LogValue}}
use Rattle.pmf_board.specs.{declared.board.TheConstants.{MOST_WORKERS}, Workers.{AreWorkers}}
use Rattle.pmf_world.specs.{declared.fault.TheConstants.{MOST_LEDGERS}, declared.fault.WorldNewFault.{WorldNewFault}, declared.step.WorldStep.{WorldStep}, Steps.{after, opening_of}, Worlds.{WorldValue, StandsFor}, declared.simulating.SimFault.{SimFault}, declared.simulating.TheConstants.{SCHEDULE_LIMIT}, Schedule.{TellsSome, schedule_of}, Lines.{text_of_steps, text_of_ledgers}}
use Rattle.pmf_world.specs.declared.fault.WorldNewFault.TheVariants as new
use Rattle.pmf_world.specs.declared.simulating.SimFault.TheVariants as fault

-- the text is that of the steps in a world of these sections: a line for each step, and then the report of each ledger, which is that of the sections gathered there
pub record Plays (sections : List Trace) (workers ledgers : ℕ) (steps : List WorldStep) (text : List ℕ) : Type 0 where
  pub world : WorldValue
  pub sections_are : world.sections ≡ sections
  pub profile_is : world.profile ≡ One
  pub stands : StandsFor world (after (opening_of (length sections) workers ledgers) (reverse steps))
  pub text_is : text ≡ text_of_steps (opening_of (length sections) workers ledgers) [] steps ++ text_of_ledgers 0 world.ledgers

-- the schedule is not too long, and tells these steps
pub record IsSchedule (schedule : List ℕ) (steps : List WorldStep) : Type 0 where
  pub fits : length schedule ≤ SCHEDULE_LIMIT
  pub told : schedule_of schedule ≡ Ok steps

-- the log has no fault, and the text is that of the schedule's steps in a world of its sections
pub record IsSimulation (log schedule : List ℕ) (workers ledgers : ℕ) (text : List ℕ) : Type 0 where
  pub steps : List WorldStep
  pub read : LogValue
  pub scheduled : IsSchedule schedule steps
  pub faultless : log_of 0 log ≡ Ok read
  pub workers_fit : AreWorkers workers
  pub few_ledgers : ledgers ≤ MOST_LEDGERS
  pub plays : Plays read.sections workers ledgers steps text

-- why there is no world of a log's sections: for its workers, its ledgers, or want of memory; never for the sections
abbrev pub IsNumbersFault : ℕ → ℕ → WorldNewFault → Type 0
IsNumbersFault workers ledgers new.NoWorkers = workers ≡ 0
IsNumbersFault workers ledgers new.TooManyWorkers = MOST_WORKERS < workers
IsNumbersFault workers ledgers new.TooManyLedgers = AreWorkers workers × (MOST_LEDGERS < ledgers)
IsNumbersFault workers ledgers new.OutOfMemory = AreWorkers workers
IsNumbersFault workers ledgers _ = ⊥

-- why there is no simulation: each fault where those before it don't apply; memory is wanted by a schedule
-- that is not too long and tells some steps, or where nothing is refused
abbrev pub IsSimFault : List ℕ → List ℕ → ℕ → ℕ → SimFault → Type 0
IsSimFault log schedule workers ledgers fault.TooLong = SCHEDULE_LIMIT < length schedule
IsSimFault log schedule workers ledgers (fault.BadStep line) = (length schedule ≤ SCHEDULE_LIMIT) × (schedule_of schedule ≡ Err line)
IsSimFault log schedule workers ledgers (fault.Log found) =
    (steps : List WorldStep) × IsSchedule schedule steps × (found ≢ out_of_memory → log_of 0 log ≡ Err found)
IsSimFault log schedule workers ledgers (fault.New found) =
    (steps : List WorldStep) × (read : LogValue) × IsSchedule schedule steps × (log_of 0 log ≡ Ok read) × IsNumbersFault workers ledgers found
IsSimFault log schedule workers ledgers fault.OutOfMemory =
    ((length schedule ≤ SCHEDULE_LIMIT) × TellsSome schedule)
    ⊎ ((steps : List WorldStep) × (read : LogValue) × IsSchedule schedule steps × (log_of 0 log ≡ Ok read) × AreWorkers workers × (ledgers ≤ MOST_LEDGERS))
