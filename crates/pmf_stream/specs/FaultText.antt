-- How it is told why a stream was not answered, a log was not checked, and ledger texts were not joined. ASCII. Defined here.
use Rattle.std.specs.Prelude.{ℕ, List, ◌++◌, Option, Some, codes, decimal}
use Rattle.pmf_storelog.specs.FaultText.{text_of_fault}
use Rattle.pmf_ledger.specs.FaultText.{text_of_join}
use Rattle.pmf_ledger.specs.FaultText as ledger
use Rattle.pmf_farm.specs.FaultText as farm
use Rattle.pmf_stream.specs.declared.{checking.CheckLogFault.{CheckLogFault}, fault.StreamFault.{StreamFault}, joining.JoinTextFault.{JoinTextFault}}
use Rattle.pmf_stream.specs.declared.checking.CheckLogFault.TheVariants as check
use Rattle.pmf_stream.specs.declared.joining.JoinTextFault.TheVariants as fault
use Rattle.pmf_stream.specs.declared.fault.StreamFault.TheVariants as stream

-- the text of why a stream was not answered, with those of its own faults
abbrev pub text_of_stream : {E : Type 0} → (E → Option (List ℕ)) → StreamFault E → Option (List ℕ)
text_of_stream text stream.ReadFault = Some (codes "read failed")
text_of_stream text (stream.Refused found) = text found
text_of_stream text (stream.WriteFault written) = Some (codes "write failed after " ++ decimal written ++ codes " bytes")
text_of_stream text stream.OutOfMemory = Some (codes "out of memory")

-- the text of why a log was not checked
abbrev pub text_of_check : CheckLogFault → List ℕ
text_of_check (check.Log found) = text_of_fault found
text_of_check (check.Farm found) = farm.text_of_fault found
text_of_check check.TooLong = codes "ledger is too long"

-- the text of why ledger texts were not joined
abbrev pub text_of_join_text : JoinTextFault → List ℕ
text_of_join_text (fault.Load index found) = ledger.text_of_fault found
text_of_join_text (fault.Join found) = text_of_join found
text_of_join_text fault.TooLong = codes "ledger is too long"
text_of_join_text fault.OutOfMemory = codes "out of memory"
