-- How it is told why there is no world, and no simulation. ASCII. Defined here.
use Rattle.std.specs.Prelude.{ℕ, List, ◌++◌, codes, decimal}
use Rattle.pmf_storelog.specs.FaultText.{text_of_fault}
use Rattle.pmf_ledger.specs.FaultText.{text_of_twice}
use Rattle.pmf_world.specs.declared.{fault.WorldNewFault.{WorldNewFault}, simulating.SimFault.{SimFault}}
use Rattle.pmf_world.specs.declared.fault.WorldNewFault.TheVariants as new
use Rattle.pmf_world.specs.declared.simulating.SimFault.TheVariants as fault

-- the text of why there is no world
abbrev pub text_of_new : WorldNewFault → List ℕ
text_of_new new.NoWorkers = codes "workers must be 1 to 64"
text_of_new new.TooManyWorkers = codes "workers must be 1 to 64"
text_of_new new.TooManySections = codes "too many sections"
text_of_new (new.TwiceNamed name) = text_of_twice name
text_of_new new.TooManyLedgers = codes "ledgers must be 0 to 64"
text_of_new new.OutOfMemory = codes "out of memory"

-- the text of why there is no simulation
abbrev pub text_of_sim : SimFault → List ℕ
text_of_sim fault.TooLong = codes "schedule is too long"
text_of_sim (fault.BadStep line) = codes "schedule line " ++ decimal line ++ codes ": bad step"
text_of_sim (fault.Log found) = text_of_fault found
text_of_sim (fault.New found) = text_of_new found
text_of_sim fault.OutOfMemory = codes "out of memory"
