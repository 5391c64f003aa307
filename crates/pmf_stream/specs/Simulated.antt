-- What sim_to writes of a log and a schedule, and what it refuses. Defined here.
use Rattle.std.specs.Prelude.{◌≢◌, ℕ, List}
use Rattle.pmf_world.specs.{Simulation.{IsSimFault, IsSimulation}, declared.simulating.SimFault.{SimFault}}
use Rattle.pmf_world.specs.declared.simulating.SimFault.TheVariants as fault

-- a simulation, of what a command writes that answers nothing else
abbrev pub IsSimulationOf : List ℕ → List ℕ → ℕ → ℕ → Unit {0} → List ℕ → Type 0
IsSimulationOf log schedule workers ledgers done text = IsSimulation log schedule workers ledgers text

-- why there is none, of what a command refuses that tells want of memory apart
abbrev pub IsSimRefusalOf : List ℕ → List ℕ → ℕ → ℕ → SimFault → Type 0
IsSimRefusalOf log schedule workers ledgers found = (found ≢ fault.OutOfMemory) × IsSimFault log schedule workers ledgers found
