-- What is answered of `check` where it ends with status 0.
use Rattle.std.proofs.{Common.{◌≡◌, ◌⊎◌, ℕ, ◌<◌, codes, Bool, true, false, not, nat_lt, List, Option, Some, Result, Ok, Err, refl, sym, ap, subst, ◌∙◌, inl, inr, arith, if◌then◌else◌}, lemmas.Bool.{and_parts, ltb-true, not-true}}
use Rattle.pmf_storelog.specs.{declared.fault.Cause.{Cause}}
use Rattle.pmf_farm.specs.declared.fault.FarmFault.{FarmFault}
use Rattle.pmf_lint.specs.{declared.warnings.Warnings.{Warnings}, Warnings.{are_due, warnings_of}}
use Rattle.pmf_stream.specs.{Answering.{Answers}, Checking.{AreWarnings, IsCheckFaultOf, IsReportOf}, declared.checking.{CheckLogFault.{CheckLogFault}, Done.{Done}}, declared.fault.StreamFault.{StreamFault}}
use Rattle.pmf_request.specs.declared.{settings.Settings.{Settings}, request.{Input.{Input}, Input.TheVariants.{Standard, File}, Request.{Request}, Request.TheVariants.{Check}}}
use Rattle.pmf_command.specs.{Answered.{AnswersWords, AreTrusted, AskForHelp, EndsWellOnlyIfKept, IsAnswered, IsSaidOf, IsTrusted, IsUnread, Streams}, Statuses.{IsAnswerTo, is_trusted, status_of, status_of_cause, status_of_check_fault, status_of_done, status_of_farm_fault, status_of_fails, status_of_fault, status_of_kind}, declared.status.{Status.{Status}, Status.TheVariants.{NoFail, SomeFail}}}
use Rattle.clap.specs.{Words.{Row, Text, one_of}, declared.error.kind.{ErrorKind.{ErrorKind}, ErrorKind.TheVariants.{DisplayHelp, DisplayVersion, OutOfMemory}}}
use Rattle.pmf_words.specs.Words.{IsCheckBy, IsCheckOf, IsInputOf, IsRefusedWith}
use Rattle.pmf_storelog.specs.declared.fault.Cause.TheVariants as log
use Rattle.pmf_farm.specs.declared.fault.FarmFault.TheVariants as farm
use Rattle.pmf_stream.specs.declared.checking.CheckLogFault.TheVariants as checking
use Rattle.pmf_stream.specs.declared.fault.StreamFault.TheVariants as stream

-- no refusal ends well
no_cause : (cause : Cause) → status_of_cause cause ≡ NoFail → ⊥
no_cause log.OutOfMemory is = cc
no_cause _ is = cc

no_farm : (fault : FarmFault) → status_of_farm_fault fault ≡ NoFail → ⊥
no_farm farm.OutOfMemory is = cc
no_farm _ is = cc

no_fault : (fault : StreamFault CheckLogFault) → status_of_fault status_of_check_fault fault ≡ NoFail → ⊥
no_fault stream.ReadFault is = cc
no_fault (stream.Refused (checking.Log found)) is = no_cause found.cause is
no_fault (stream.Refused (checking.Farm found)) is = no_farm found is
no_fault (stream.Refused checking.TooLong) is = cc
no_fault (stream.WriteFault written) is = cc
no_fault stream.OutOfMemory is = cc

no_fails : (fails : ℕ) → status_of_fails fails ≡ NoFail → fails ≡ 0
no_fails fails is = grind arith

-- nothing fails, and what was found is trusted
well_done : (trusted : Bool) (fails : ℕ) → (if trusted then status_of_fails fails else SomeFail) ≡ NoFail → (trusted ≡ true) × (fails ≡ 0)
well_done true fails is = (refl, no_fails fails is)
well_done false fails is = cc

-- a report was written, nothing in it fails, and it is trusted
abbrev HasReported : Settings → Option (List ℕ) → Option (List ℕ) → Type 0
HasReported settings left rest = (done : Done) × (text : List ℕ) × IsReportOf settings left rest done text × (is_trusted done.passes done.warnings ≡ true) × (done.fails ≡ 0)

reported : (settings : Settings) (left rest held holds : Option (List ℕ)) (status : Status) (answer : Result Done (StreamFault CheckLogFault)) → status ≡ status_of status_of_done status_of_check_fault answer →
    Answers (IsReportOf settings left rest) (IsCheckFaultOf settings left rest) held holds answer → status ≡ NoFail → HasReported settings left rest
reported settings left rest held holds status (Ok done) is answers well = let found = well_done (is_trusted done.passes done.warnings) done.fails (sym is ∙ well) in (done, answers.0, answers.1, found.0, found.1)
reported settings left rest held holds status (Err fault) is answers well = absurd (no_fault fault (sym is ∙ well))

no_unread : (status : Status) → IsUnread status → status ≡ NoFail → ⊥
no_unread status (inl is) well = cc
no_unread status (inr is) well = cc

pub ends : (settings : Settings) (input : Input) (s : Streams) (status : Status) → IsAnswered (Check settings input) s status → status ≡ NoFail → IsSaidOf input s (HasReported settings)
ends settings Standard s status (inl unopened) well = absurd unopened
ends settings Standard s status (inr (answer, is, answers)) well = reported settings s.left s.rest s.held s.holds status answer is answers well
ends settings (File name) s status (inl unread) well = absurd (no_unread status unread well)
ends settings (File name) s status (inr (left, rest, file, (answer, is, answers))) well =
    (left, rest, file, reported settings left rest s.held s.holds status answer is answers well)

-- what is said follows from something else that is
said_so : (input : Input) (s : Streams) (Says Follows : Option (List ℕ) → Option (List ℕ) → Type 0) → ((left rest : Option (List ℕ)) → Says left rest → Follows left rest) → IsSaidOf input s Says → IsSaidOf input s Follows
said_so Standard s Says Follows so said = so s.left s.rest said
said_so (File name) s Says Follows so (left, rest, file, said) = (left, rest, file, so left rest said)

pub ends_kept : (settings : Settings) (input : Input) (s : Streams) (status : Status) → IsAnswered (Check settings input) s status → EndsWellOnlyIfKept settings input s status
ends_kept settings input s status answered well =
    said_so input s (HasReported settings) _ (λ left rest found. (found.2.0, found.2.1, found.2.2.kept found.4)) (ends settings input s status answered well)

trusts : (strict : Bool) (bytes : List ℕ) (passes : ℕ) (warnings : Option Warnings) → AreWarnings strict bytes warnings → strict ≡ true → is_trusted passes warnings ≡ true → (0 < passes) × (are_due (warnings_of bytes) ≡ false)
trusts strict bytes passes warnings are is trusted =
    let some : warnings ≡ Some (warnings_of bytes) = subst (λ b. AreWarnings b bytes warnings) is are in
    let both = and_parts (nat_lt 0 passes) (not (are_due (warnings_of bytes))) (sym (ap (is_trusted passes) some) ∙ trusted) in
    (ltb-true 0 passes both.0, not-true (are_due (warnings_of bytes)) both.1)

pub ends_trusted : (settings : Settings) (input : Input) (s : Streams) (status : Status) → IsAnswered (Check settings input) s status → settings.strict ≡ true → status ≡ NoFail → IsTrusted settings input s
ends_trusted settings input s status answered strict well =
    said_so input s (HasReported settings) _ (λ left rest found.
    let report = found.2.2 in
    let trusted = trusts settings.strict found.2.1.bytes found.0.passes found.0.warnings found.2.3 strict found.3 in
    (found.2.0, found.2.1, report.kept found.4, (report.ledger, report.gathered, subst (λ n. 0 < n) report.passes trusted.0), trusted.1)) (ends settings input s status answered well)

-- an error that ends well asks for help or the version
asked_for : (words : List Text) (kind : ErrorKind) → IsRefusedWith words kind → status_of_kind kind ≡ NoFail → AskForHelp words
asked_for words DisplayHelp refused well = inl refused
asked_for words DisplayVersion refused well = inr refused
asked_for words OutOfMemory refused well = cc
asked_for words _ refused well = cc

refused_well : (words : List Text) (kind : ErrorKind) → IsRefusedWith words kind → IsAnswerTo kind NoFail → AskForHelp words
refused_well words kind refused (inl is) = asked_for words kind refused (sym is)
refused_well words kind refused (inr (inl is)) = cc
refused_well words kind refused (inr (inr (none, is))) = cc

-- a request that the words of `check` ask for
checked : (rows : List Row) (asked : Request) (s : Streams) → IsCheckBy rows asked → IsAnswered asked s NoFail → one_of (codes "strict") rows ≡ Some (codes "true") →
    (settings : Settings) × (input : Input) × IsCheckOf rows settings × IsInputOf rows input × IsTrusted settings input s
checked rows (Check settings input) s (is, from) answered strict = (settings, input, is, from, ends_trusted settings input s NoFail answered (is.strict.given strict) refl)
checked rows _ s is answered strict = absurd is

pub words_trusted : (words : List Text) (s : Streams) → AnswersWords words s NoFail → AskForHelp words ⊎ AreTrusted words s
words_trusted words s (inl (kind, refused, answer)) = inl (refused_well words kind refused answer)
words_trusted words s (inr (asked, (p, q, r, passed, by), answered)) = inr (p, q, r, λ rows is strict. checked rows asked s ((by (codes "check") rows is).check refl) answered strict)
