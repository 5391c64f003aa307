-- How a row counts in a report. Defined here.
use Rattle.std.specs.Prelude.{Bool, true, false}
use Rattle.pmf_event.specs.declared.finding.{Finding.{Finding}, Finding.TheVariants.{PersistPass, PersistFail, PersistEmpty, OrderedPass, OrderedFail, OrderedSameLine, OrderedEmpty, FlushDoubled, FlushNeedless, NoBackup, DupLog, CheckPass, CheckFail, TxStillOpen, Unmatched, Outside, Nested, Unopened, Unclosed}}
use Rattle.pmf_verdict.specs.declared.outcome.{Outcome.{Outcome}, Outcome.TheVariants.{Pass, Fail, Warn, Empty}}

-- what a finding counts as
abbrev pub outcome_of : Finding → Outcome
outcome_of PersistPass = Pass
outcome_of (PersistFail byte) = Fail
outcome_of PersistEmpty = Empty
outcome_of OrderedPass = Pass
outcome_of (OrderedFail byte after crash) = Fail
outcome_of (OrderedSameLine byte after) = Fail
outcome_of OrderedEmpty = Empty
outcome_of (FlushDoubled line lines) = Warn
outcome_of (FlushNeedless line lines) = Warn
outcome_of (NoBackup byte) = Fail
outcome_of (DupLog byte) = Warn
outcome_of CheckPass = Pass
outcome_of (CheckFail byte) = Fail
outcome_of (TxStillOpen depth) = Fail
outcome_of Unmatched = Fail
outcome_of Outside = Fail
outcome_of Nested = Fail
outcome_of Unopened = Fail
outcome_of (Unclosed start) = Fail

-- whether the two are the same
unfoldable pub is_same : Outcome → Outcome → Bool
is_same Pass Pass = true
is_same Fail Fail = true
is_same Warn Warn = true
is_same Empty Empty = true
is_same _ _ = false
