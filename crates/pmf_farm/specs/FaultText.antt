-- How it is told why a farm did not run. ASCII. Defined here.
use Rattle.std.specs.Prelude.{ℕ, List, codes}
use Rattle.pmf_ledger.specs.FaultText.{text_of_twice}
use Rattle.pmf_farm.specs.declared.fault.FarmFault.{FarmFault}
use Rattle.pmf_farm.specs.declared.fault.FarmFault.TheVariants as fault

-- the text of a fault
abbrev pub text_of_fault : FarmFault → List ℕ
text_of_fault fault.NoWorkers = codes "workers must be 1 to 64"
text_of_fault fault.TooManyWorkers = codes "workers must be 1 to 64"
text_of_fault fault.TooManySections = codes "too many sections"
text_of_fault (fault.TwiceNamed name) = text_of_twice name
text_of_fault fault.OutOfMemory = codes "out of memory"
