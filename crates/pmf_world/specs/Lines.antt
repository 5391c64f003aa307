-- The text lines of a simulation: one for each step, and a report for each ledger. Defined here.
use Rattle.std.specs.Prelude.{ℕ, suc, ◌+◌, List, [], ◌∷◌, ◌++◌, length, Result, Ok, Err, codes, decimal}
use Rattle.pmf_ledger.specs.{LedgerValue.{LedgerValue}, Report.{report_of}}
use Rattle.pmf_world.specs.{declared.step.WorldAnswer.{WorldAnswer}, declared.step.WorldFault.{WorldFault}, declared.step.WorldStep.{WorldStep}, Steps.{WorldState, Stepped, stepped, after}}
use Rattle.pmf_world.specs.declared.step.WorldAnswer.TheVariants as answer
use Rattle.pmf_world.specs.declared.step.WorldFault.TheVariants as fault

-- what is written of an answer
unfoldable pub text_of_answer : WorldAnswer → List ℕ
text_of_answer (answer.Task section number) = codes "task section=" ++ decimal section ++ codes " number=" ++ decimal number
text_of_answer answer.NoTask = codes "none"
text_of_answer answer.Checked = codes "checked"
text_of_answer (answer.Sent message) = codes "sent message=" ++ decimal message
text_of_answer answer.Marked = codes "marked"
text_of_answer answer.WorkerLost = codes "lost"
text_of_answer answer.Added = codes "added"
text_of_answer answer.Repeat = codes "repeat"
text_of_answer answer.Joined = codes "joined"

-- the name of a refusal
unfoldable pub text_of_fault : WorldFault → List ℕ
text_of_fault fault.NoSuchWorker = codes "NoSuchWorker"
text_of_fault fault.NoSuchSection = codes "NoSuchSection"
text_of_fault fault.NoSuchMessage = codes "NoSuchMessage"
text_of_fault fault.NoSuchLedger = codes "NoSuchLedger"
text_of_fault fault.Gone = codes "Gone"
text_of_fault fault.Misplaced = codes "Misplaced"
text_of_fault fault.OutOfMemory = codes "OutOfMemory"

-- what is written of a step: its answer, or `refused` and why
abbrev pub text_of_outcome : Result WorldAnswer WorldFault → List ℕ
text_of_outcome (Ok told) = text_of_answer told
text_of_outcome (Err refused) = codes "refused " ++ text_of_fault refused

-- the answer or the refusal of what a step came to
abbrev pub outcome_of : Stepped → Result WorldAnswer WorldFault
outcome_of (Ok (told, w)) = Ok told
outcome_of (Err refused) = Err refused

-- the text line of step i
unfoldable pub text_of_step : ℕ → Result WorldAnswer WorldFault → List ℕ
text_of_step i outcome = decimal i ++ codes " " ++ text_of_outcome outcome ++ codes "\n"

-- the text lines of the steps that are left, where these came before, the newest first
unfoldable pub text_of_steps : WorldState → List WorldStep → List WorldStep → List ℕ
text_of_steps first before [] = []
text_of_steps first before (next ∷ rest) =
    text_of_step (length before + 1) (outcome_of (stepped (after first before) next)) ++ text_of_steps first (next ∷ before) rest

-- the ledgers from number k on: of each the text line `ledger k`, and its report
unfoldable pub text_of_ledgers : ℕ → List LedgerValue → List ℕ
text_of_ledgers k [] = []
text_of_ledgers k (ledger ∷ ledgers) = codes "ledger " ++ decimal k ++ codes "\n" ++ report_of ledger.sections ++ text_of_ledgers (suc k) ledgers
