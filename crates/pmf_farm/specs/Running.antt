-- What a farm takes, and what it refuses. Defined here.
use Rattle.std.specs.Prelude.{◌≡◌, ℕ, ◌<◌, ◌≤◌, List, length}
use Rattle.pmf_event.specs.Section.{Trace}
use Rattle.pmf_board.specs.{declared.board.TheConstants.{MOST_SECTIONS, MOST_WORKERS}, Workers.{AreWorkers}}
use Rattle.pmf_ledger.specs.Repeats.{HaveOwnNames, IsLeastTwice}
use Rattle.pmf_farm.specs.declared.fault.FarmFault.{FarmFault}
use Rattle.pmf_farm.specs.declared.fault.FarmFault.TheVariants as fault

-- a farm takes so many workers, and these sections
pub record IsTaken (workers : ℕ) (sections : List Trace) : Type 0 where
  pub workers_fit : AreWorkers workers
  pub few : length sections ≤ MOST_SECTIONS
  pub own_names : HaveOwnNames sections

-- why a farm refuses so many workers or these sections: each fault where those before it don't apply; want of memory says nothing of the sections
abbrev pub IsRefused : ℕ → List Trace → FarmFault → Type 0
IsRefused workers sections fault.NoWorkers = workers ≡ 0
IsRefused workers sections fault.TooManyWorkers = MOST_WORKERS < workers
IsRefused workers sections fault.TooManySections = AreWorkers workers × (MOST_SECTIONS < length sections)
IsRefused workers sections (fault.TwiceNamed name) = AreWorkers workers × (length sections ≤ MOST_SECTIONS) × IsLeastTwice sections name
IsRefused workers sections fault.OutOfMemory = AreWorkers workers × (length sections ≤ MOST_SECTIONS)
