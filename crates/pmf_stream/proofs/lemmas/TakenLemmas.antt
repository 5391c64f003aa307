-- A farm never refuses the sections of a log: they are few enough, and have names of their own.
use Rattle.std.proofs.Common.{◌≡◌, ℕ, List, Ok, arith}
use Rattle.pmf_storelog.specs.{LogText.{log_of}, LogValue.{LogValue}}
use Rattle.pmf_ledger.proofs.lemmas.OwnNamesLemmas.{few_sections, own_names}
use Rattle.pmf_farm.specs.{declared.fault.FarmFault.{FarmFault}, Running.{IsRefused}}
use Rattle.pmf_stream.specs.Checking.{IsWorkersFault}
use Rattle.pmf_farm.specs.declared.fault.FarmFault.TheVariants as fault

-- of a log a farm refuses the workers alone
pub refuses-workers : (run workers : ℕ) (bytes : List ℕ) (log : LogValue) (f : FarmFault) → log_of run bytes ≡ Ok log → IsRefused workers log.sections f → IsWorkersFault workers f
refuses-workers run workers bytes log fault.NoWorkers is refused = refused
refuses-workers run workers bytes log fault.TooManyWorkers is refused = refused
refuses-workers run workers bytes log fault.TooManySections is refused = let few = few_sections run bytes log is in let many = refused.1 in omega (arith, few, many)
refuses-workers run workers bytes log (fault.TwiceNamed name) is refused = own_names run bytes log is name refused.2.0
refuses-workers run workers bytes log fault.OutOfMemory is refused = refused.0
