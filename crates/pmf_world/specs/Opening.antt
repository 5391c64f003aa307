-- What a world is made of, and what is refused. Defined here.
use Rattle.std.specs.Prelude.{◌≡◌, ℕ, ◌<◌, ◌≤◌, List, length}
use Rattle.pmf_event.specs.{declared.profile.Profile.{Profile}, Section.{Trace}}
use Rattle.pmf_board.specs.{declared.board.TheConstants.{MOST_SECTIONS, MOST_WORKERS}, Workers.{AreWorkers}}
use Rattle.pmf_ledger.specs.Repeats.{HaveOwnNames, IsLeastTwice}
use Rattle.pmf_world.specs.{declared.fault.TheConstants.{MOST_LEDGERS}, declared.fault.WorldNewFault.{WorldNewFault}, Steps.{opening_of}, Worlds.{WorldValue, StandsFor}}
use Rattle.pmf_world.specs.declared.fault.WorldNewFault.TheVariants as fault

-- 1 to 64 workers, at most 65,536 sections, each with a name of its own, and at most 64 ledgers
pub record IsMade (sections : List Trace) (workers ledgers : ℕ) : Type 0 where
  pub workers_fit : AreWorkers workers
  pub few : length sections ≤ MOST_SECTIONS
  pub own_names : HaveOwnNames sections
  pub few_ledgers : ledgers ≤ MOST_LEDGERS

-- the world is of these sections and by this profile, and nothing has happened in it
pub record IsOpening (profile : Profile) (sections : List Trace) (workers ledgers : ℕ) (world : WorldValue) : Type 0 where
  pub profile_is : world.profile ≡ profile
  pub sections_are : world.sections ≡ sections
  pub stands : StandsFor world (opening_of (length sections) workers ledgers)

-- why there is no such world: each fault where those before it don't apply; want of memory says nothing of names and ledgers
abbrev pub IsNotMade : List Trace → ℕ → ℕ → WorldNewFault → Type 0
IsNotMade sections workers ledgers fault.NoWorkers = workers ≡ 0
IsNotMade sections workers ledgers fault.TooManyWorkers = MOST_WORKERS < workers
IsNotMade sections workers ledgers fault.TooManySections = AreWorkers workers × (MOST_SECTIONS < length sections)
IsNotMade sections workers ledgers (fault.TwiceNamed name) = AreWorkers workers × (length sections ≤ MOST_SECTIONS) × IsLeastTwice sections name
IsNotMade sections workers ledgers fault.TooManyLedgers =
    AreWorkers workers × (length sections ≤ MOST_SECTIONS) × HaveOwnNames sections × (MOST_LEDGERS < ledgers)
IsNotMade sections workers ledgers fault.OutOfMemory = AreWorkers workers × (length sections ≤ MOST_SECTIONS)
