-- How each request is answered, from the bytes that are read to the status with which the process ends. Defined here.
use Rattle.std.specs.Prelude.{◌≡◌, ◌⊎◌, ◌+◌, ◌<◌, ◌≤◌, ℕ, Bool, true, false, ◌&&◌, not, ◌==◌, nat_le, nat_lt, List, [], ◌∷◌, ◌++◌, length, map, filter, take, codes, All, IsUtf8, Option, None, Some, Result, MatchResult, IfOk, bytes_eq, if◌then◌else◌}
use Rattle.std.specs.{Borrow.{Bor}, List.{slice_split}}
use Rattle.clap.specs.{Words.{Row, one_of, subcommand_of}, declared.{builder.value_parser.ValueParser.{ValueParser}, error.kind.{ErrorKind.{ErrorKind}, ErrorKind.TheVariants.{DisplayHelp, DisplayVersion}}}}
use Rattle.pmf_event.specs.declared.section.TheConstants.{EVENT_LIMIT}
use Rattle.pmf_storelog.specs.declared.fault.TheConstants.{LOG_LIMIT}
use Rattle.pmf_ledger.specs.declared.{form.Form.{Form}, form.Form.TheVariants.{Report, Summary, Ledger}, loading.TheConstants.{LEDGER_LIMIT}}
use Rattle.pmf_storelog.specs.LogValue.{LogValue}
use Rattle.pmf_ledger.specs.{AllKept.{AllKept}, Gathered.{IsLedgerOf}, LedgerValue.{LedgerValue}, Report.{totals_of}}
use Rattle.pmf_words.specs.Words.{IsCheckOf, IsInputOf, IsRefusedWith, IsRequestOf, program_of}
use Rattle.pmf_request.specs.declared.settings.Settings.{Settings}
use Rattle.pmf_request.specs.declared.request.{Cuts.{Cuts}, Files.{Files}, Input.{Input}, Input.TheVariants.{Standard, File}, Simulation.{Simulation}, Request.{Request}, Request.TheVariants.{Check, Explain, ExplainAll, Why, Patch, Locate, Lint, Cut, Join, Sim}, Wanted.{Wanted}, Joining.{Joining}}
use Rattle.pmf_request.specs.declared.request.Wanted.TheVariants as wanted
use Rattle.pmf_request.specs.declared.request.Joining.TheVariants as joining
use Rattle.pmf_cut.specs.declared.fault.CutFault.{CutFault}
use Rattle.pmf_query.specs.{Explanation.{IsExplanation}, AllExplained.{ExplainsAll}, Locating.{IsLocationText}, Refusals.{IsEventRefusal, IsLogRefusal}}
use Rattle.pmf_lint.specs.{Linting.{Overviews}, Warnings.{are_due, warnings_of}}
use Rattle.pmf_why.specs.{Patching.{IsPatch, IsPatchRefusal}, Why.{IsWhy, IsWhyRefusal}}
use Rattle.pmf_stream.specs.{Answering.{Answers}, Asked.{IsAnswerOf, IsRefusalOf}, Checking.{IsCheckFaultOf, IsLogOf, IsReportOf}, Files.{IsCutOf}, Joining.{IsJoinedText, IsRefusalOfTexts}, Reading.{HasReadAll}, Simulated.{IsSimRefusalOf, IsSimulationOf}, declared.cutting.Pieces.{Pieces}, declared.fault.StreamFault.{StreamFault}}
use Rattle.pmf_ledger.specs.declared.totals.Totals.{Totals}
use Rattle.pmf_merge.specs.{Merging.{IsMergeFaultOf, Merges}, RawWritten.{IsTextOfBlocks}, Refusing.{WritesFront}, Trusting.{IsTrustFaultOf, Trusts}, Written.{IsTextOfSome}, declared.fault.MergeFault.{MergeFault}}
use Rattle.pmf_world.specs.declared.simulating.{TheConstants.{SCHEDULE_LIMIT}}
use Rattle.pmf_command.specs.{Statuses.{IsAnswerTo, status_of, status_of_asked, status_of_check_fault, status_of_cut_fault, status_of_done, status_of_event_refusal, status_of_joined, status_of_linted, status_of_log_refusal, status_of_merge, status_of_patch_refusal, status_of_pieces, status_of_sim_fault, status_of_text_fault, status_of_trust}, declared.status.{Status.{Status}, Status.TheVariants.{NoFail, Refused, NoMemory, DeviceFault}}}

-- a file that is opened has the bytes that its name has, where they are known
abbrev pub IsFileOf : Option (List ℕ) → Option (List ℕ) → Type 0
IsFileOf None left = Unit {0}
IsFileOf (Some bytes) left = left ≡ Some bytes

-- what was read of these bytes, where they are known: all, but at most one byte more than the limit
abbrev pub IsReadOf : ℕ → Option (List ℕ) → List ℕ → Type 0
IsReadOf limit None text = Unit {0}
IsReadOf limit (Some bytes) text = text ≡ take (limit + 1) bytes

-- so is one of the second list to each of the first, in their order
abbrev pub AreEach : {X Y : Type 0} → (X → Y → Type 0) → List X → List Y → Type 0
AreEach Is [] [] = Unit {0}
AreEach Is (x ∷ xs) (y ∷ ys) = Is x y × AreEach Is xs ys
AreEach Is [] (y ∷ ys) = ⊥
AreEach Is (x ∷ xs) [] = ⊥

-- the texts are what was read of the files with these names
abbrev pub AreRead : ℕ → (List ℕ → Option (List ℕ)) → List (List ℕ) → List (List ℕ) → Type 0
AreRead limit files names texts = AreEach (λ name text. IsReadOf limit (files name) text) names texts

-- the files with these names were opened, and this is left of each
abbrev pub AreOpened : (List ℕ → Option (List ℕ)) → List (List ℕ) → List (Option (List ℕ)) → Type 0
AreOpened files names lefts = AreEach (λ name left. IsFileOf (files name) left) names lefts

-- what the streams tell, where their bytes are known: what is left of the input before and after; what the output holds; what each of
-- its files does, and of the files that a log is cut into; and what the files have that are read
pub record Streams : Type 0 where
  pub left : Option (List ℕ)
  pub rest : Option (List ℕ)
  pub held : Option (List ℕ)
  pub holds : Option (List ℕ)
  pub held_in : ℕ → Option (List ℕ)
  pub holds_in : ℕ → Option (List ℕ)
  pub parts_held : ℕ → Option (List ℕ)
  pub parts_hold : ℕ → Option (List ℕ)
  pub files : List ℕ → Option (List ℕ)

-- something was not read
abbrev pub IsUnread : Status → Type 0
IsUnread status = (status ≡ NoMemory) ⊎ (status ≡ DeviceFault)

-- a command that writes a text to the output ends as it answered
abbrev pub EndsAs : {T E : Type 0} → (T → Status) → (E → Status) → (T → List ℕ → Type 0) → (E → Type 0) → Option (List ℕ) → Option (List ℕ) → Status → Type 0
EndsAs {T} {E} ends_as ends_refused IsText IsRefusal held holds status =
    (answer : Result T (StreamFault E)) × (status ≡ status_of ends_as ends_refused answer) × Answers IsText IsRefusal held holds answer

-- whether the byte ends a text line; whether the text line has a byte
abbrev pub is_line_end : ℕ → Bool
is_line_end byte = byte == 10

abbrev pub is_filled : List ℕ → Bool
is_filled line = not (length line == 0)

-- the files that a list names: each of its text lines that is not empty is a name
unfoldable pub names_in : List ℕ → List (List ℕ)
names_in list = filter is_filled (slice_split is_line_end list)

-- the files that are to be joined: those of the words, and behind them those of the list
abbrev pub names_of : Files → List ℕ → List (List ℕ)
names_of files list = map (λ name. name.now) files.names.items ++ names_in list

-- the file of the list with this name: `-` is standard input
abbrev pub list_file : List ℕ → List ℕ
list_file name = if bytes_eq name (codes "-") then codes "/dev/stdin" else name

-- what was read of the list; where there is none, it names nothing
abbrev pub IsListOf : Option (Bor (List ℕ)) → (List ℕ → Option (List ℕ)) → List ℕ → Type 0
IsListOf None known list = list ≡ []
IsListOf (Some name) known list = IsReadOf LEDGER_LIMIT (known (list_file name.now)) list

-- the list is no longer than a ledger, and each of its names is UTF-8
pub record CanName (list : List ℕ) : Type 0 where
  pub fits : length list ≤ LEDGER_LIMIT
  pub texts : All IsUtf8 (names_in list)

-- in which form the ledger of all is written
abbrev pub form_of : Wanted → Form
form_of wanted.Report = Report
form_of wanted.Summary = Summary
form_of wanted.Ledger = Ledger

-- the files with these names were read, and their ledgers joined
abbrev pub JoinsRead : Form → List (List ℕ) → (List ℕ → Option (List ℕ)) → Option (List ℕ) → Option (List ℕ) → Status → Type 0
JoinsRead form names known held holds status =
    (texts : List (List ℕ)) × AreRead LEDGER_LIMIT known names texts
    × EndsAs status_of_joined status_of_text_fault (IsJoinedText form texts) (IsRefusalOfTexts form texts) held holds status

-- they are not merged: for this fault of what was read, and a front of such a text was written
abbrev pub IsUnmerged : Form → List (Option (List ℕ)) → Option (List ℕ) → Option (List ℕ) → MergeFault → Type 0
IsUnmerged form starts held holds fault = IsMergeFaultOf starts fault × WritesFront (IsTextOfSome form) held holds

abbrev pub IsUntrusted : List (Option (List ℕ)) → Option (List ℕ) → Option (List ℕ) → MergeFault → Type 0
IsUntrusted starts held holds fault = IsTrustFaultOf starts fault × WritesFront IsTextOfBlocks held holds

-- they were opened, and their ledgers merged as they were read
abbrev pub MergesOpened : Form → List (List ℕ) → (List ℕ → Option (List ℕ)) → Option (List ℕ) → Option (List ℕ) → Status → Type 0
MergesOpened form names known held holds status =
    (starts : List (Option (List ℕ))) × AreOpened known names starts
    × ((answer : Result Totals MergeFault) × (status ≡ status_of_merge answer) × MatchResult answer (Merges form starts held holds) (IsUnmerged form starts held holds))

-- they were opened, and merged as they stand
abbrev pub TrustsOpened : List (List ℕ) → (List ℕ → Option (List ℕ)) → Option (List ℕ) → Option (List ℕ) → Status → Type 0
TrustsOpened names known held holds status =
    (starts : List (Option (List ℕ))) × AreOpened known names starts
    × ((answer : Result Bool MergeFault) × (status ≡ status_of_trust answer) × MatchResult answer (Trusts starts held holds) (IsUntrusted starts held holds))

-- the files with these names were joined so, in the way that is asked for
abbrev pub JoinsAs : Joining → Form → List (List ℕ) → (List ℕ → Option (List ℕ)) → Option (List ℕ) → Option (List ℕ) → Status → Type 0
JoinsAs joining.Load form names known held holds status = JoinsRead form names known held holds status
JoinsAs joining.Merge form names known held holds status = MergesOpened form names known held holds status
JoinsAs joining.Trust form names known held holds status = TrustsOpened names known held holds status

-- so do the files with these names, or one of them was not read; without a name it is refused
abbrev pub JoinsNamed : Joining → Form → List (List ℕ) → (List ℕ → Option (List ℕ)) → Option (List ℕ) → Option (List ℕ) → Status → Type 0
JoinsNamed by form [] known held holds status = status ≡ Refused
JoinsNamed by form names known held holds status = IsUnread status ⊎ JoinsAs by form names known held holds status

-- the ledgers of the words and of the list are joined; or the list was not read, or is refused
abbrev pub JoinsFiles : Files → (List ℕ → Option (List ℕ)) → Option (List ℕ) → Option (List ℕ) → Status → Type 0
JoinsFiles files known held holds status =
    IsUnread status
    ⊎ ((list : List ℕ) × IsListOf files.list known list
    × (((CanName list → ⊥) × (status ≡ Refused)) ⊎ (CanName list × JoinsNamed files.joining (form_of files.wanted) (names_of files list) known held holds status)))

-- the schedule of the input is played with the log of the file, or one of the two was not read
abbrev pub Simulates : Simulation → (List ℕ → Option (List ℕ)) → Option (List ℕ) → Option (List ℕ) → Option (List ℕ) → Option (List ℕ) → Status → Type 0
Simulates simulation known left rest held holds status =
    IsUnread status
    ⊎ ((log : List ℕ) × (schedule : List ℕ) × IsReadOf LOG_LIMIT (known simulation.log.now) log × HasReadAll SCHEDULE_LIMIT left rest schedule
    × EndsAs status_of_asked status_of_sim_fault (IsSimulationOf log schedule simulation.workers simulation.ledgers) (IsSimRefusalOf log schedule simulation.workers simulation.ledgers) held holds status)

-- a part has 1 to 2^20 events, a number of its own, and a file 1 KiB up to what a log may have
abbrev pub can_cut : Cuts → Bool
can_cut cuts = nat_lt 0 cuts.lengths.events && nat_le cuts.lengths.events EVENT_LIMIT && nat_lt 0 cuts.lengths.step && nat_le 1024 cuts.bytes && nat_le cuts.bytes LOG_LIMIT

-- a log is cut into the output, or into files where some are asked for; so much was told
abbrev pub IsCutWhere : {X : Type 0} → Option X → ℕ → Streams → ℕ → Type 0
IsCutWhere None step s told = IsCutOf step s.left s.rest s.held_in s.holds_in told
IsCutWhere (Some prefix) step s told = IsCutOf step s.left s.rest s.parts_held s.parts_hold told

-- it is cut so, where it can be
abbrev pub IsCutAs : Cuts → Streams → Status → Type 0
IsCutAs cuts s status =
    (can_cut cuts ≡ false → status ≡ Refused)
    × (can_cut cuts ≡ true → (answer : Result Pieces (StreamFault CutFault)) × (status ≡ status_of status_of_pieces status_of_cut_fault answer) × IfOk answer (λ pieces. IsCutWhere cuts.files cuts.lengths.step s pieces.told))

-- the process ends with the status of what was answered, where the log is read from these streams
abbrev pub IsAnsweredFrom : Request → Streams → Status → Type 0
IsAnsweredFrom (Check settings log) s status = EndsAs status_of_done status_of_check_fault (IsReportOf settings s.left s.rest) (IsCheckFaultOf settings s.left s.rest) s.held s.holds status
IsAnsweredFrom (Explain asked log) s status =
    EndsAs status_of_asked status_of_event_refusal (IsAnswerOf (λ bytes _ text. IsExplanation asked.run asked.section asked.event asked.profile bytes text) s.left s.rest)
    (IsRefusalOf (IsEventRefusal (record { run = asked.run; section = asked.section; event = asked.event })) s.left s.rest) s.held s.holds status
IsAnsweredFrom (ExplainAll asked log) s status =
    EndsAs status_of_asked status_of_log_refusal (IsAnswerOf (λ bytes _ text. ExplainsAll asked bytes text) s.left s.rest) (IsRefusalOf (IsLogRefusal asked.run) s.left s.rest) s.held s.holds status
IsAnsweredFrom (Why asked log) s status =
    EndsAs status_of_asked status_of_event_refusal (IsAnswerOf (λ bytes _ text. IsWhy asked bytes text) s.left s.rest) (IsRefusalOf (IsWhyRefusal asked) s.left s.rest) s.held s.holds status
IsAnsweredFrom (Patch asked log) s status =
    EndsAs status_of_asked status_of_patch_refusal (IsAnswerOf (λ bytes _ text. IsPatch asked bytes text) s.left s.rest) (IsRefusalOf (IsPatchRefusal asked) s.left s.rest) s.held s.holds status
IsAnsweredFrom (Locate sought log) s status =
    EndsAs status_of_asked status_of_event_refusal (IsAnswerOf (λ bytes _ text. IsLocationText sought.section sought.event bytes text) s.left s.rest) (IsRefusalOf (IsEventRefusal sought) s.left s.rest) s.held s.holds status
IsAnsweredFrom (Lint asked log) s status = EndsAs status_of_linted status_of_log_refusal (IsAnswerOf (Overviews asked.unasserted) s.left s.rest) (IsRefusalOf (IsLogRefusal 0) s.left s.rest) s.held s.holds status
IsAnsweredFrom (Cut cuts) s status = IsCutAs cuts s status
IsAnsweredFrom (Join files) s status = JoinsFiles files s.files s.held s.holds status
IsAnsweredFrom (Sim simulation) s status = Simulates simulation s.files s.left s.rest s.held s.holds status

-- where the request's log is read from
abbrev pub input_of : Request → Input
input_of (Check settings log) = log
input_of (Explain asked log) = log
input_of (ExplainAll asked log) = log
input_of (Why asked log) = log
input_of (Patch asked log) = log
input_of (Locate sought log) = log
input_of (Lint asked log) = log
input_of _ = Standard

-- this is said of what is left of the log's stream before and after: of the input, or of the file, which had what its name has
abbrev pub IsSaidOf : Input → Streams → (Option (List ℕ) → Option (List ℕ) → Type 0) → Type 0
IsSaidOf Standard s Says = Says s.left s.rest
IsSaidOf (File name) s Says = (left : Option (List ℕ)) × (rest : Option (List ℕ)) × IsFileOf (s.files name.now) left × Says left rest

-- the file was not opened
abbrev pub IsUnopened : Input → Status → Type 0
IsUnopened Standard status = ⊥
IsUnopened (File name) status = IsUnread status

-- the process ends with the status of what was answered of the log, or the log's file was not opened
abbrev pub IsAnswered : Request → Streams → Status → Type 0
IsAnswered request s status =
    IsUnopened (input_of request) status
    ⊎ IsSaidOf (input_of request) s (λ left rest. IsAnsweredFrom request (record s { left = left; rest = rest }) status)

-- the process ends as these words are answered: with an error that refuses them, or as their request is
abbrev pub AnswersWords : List (List ℕ) → Streams → Status → Type 0
AnswersWords words s status =
    ((kind : ErrorKind) × IsRefusedWith words kind × IsAnswerTo kind status) ⊎ ((request : Request) × IsRequestOf words request × IsAnswered request s status)

-- it ends so for some words and streams; or the words were not read
abbrev pub AnswersSomeWords : Status → Type 0
AnswersSomeWords status = (status ≡ NoMemory) ⊎ ((status ≡ Refused) ⊎ ((words : List (List ℕ)) × (s : Streams) × AnswersWords words s status))

-- where `check` ends with status 0, what was read is a log, and all that it asserts holds
abbrev pub EndsWellOnlyIfKept : Settings → Input → Streams → Status → Type 0
EndsWellOnlyIfKept settings input s status =
    status ≡ NoFail → IsSaidOf input s (λ left rest. (log : LogValue) × IsLogOf settings.run left rest log × AllKept log.sections)

-- a law: what is answered of `check` says so, whatever the streams, and wherever the log is read from
abbrev pub StatusZeroKeepsAll : Type 0
StatusZeroKeepsAll =
    (settings : Settings) (input : Input) (s : Streams) (status : Status) → IsAnswered (Check settings input) s status → EndsWellOnlyIfKept settings input s status

-- what was read is a log, and all that it asserts holds; some row passes, and no warning is due
abbrev pub IsTrusted : Settings → Input → Streams → Type 0
IsTrusted settings input s =
    IsSaidOf input s (λ left rest. (log : LogValue) × (read : IsLogOf settings.run left rest log) × AllKept log.sections
    × ((ledger : LedgerValue) × IsLedgerOf settings.profile log.sections ledger × (0 < (totals_of ledger.sections).pass)) × (are_due (warnings_of read.bytes) ≡ false))

-- a law: where `check --strict` ends with status 0, what was read can be trusted, whatever the streams
abbrev pub StrictStatusZeroIsTrusted : Type 0
StrictStatusZeroIsTrusted =
    (settings : Settings) (input : Input) (s : Streams) (status : Status) → IsAnswered (Check settings input) s status →
    settings.strict ≡ true → status ≡ NoFail → IsTrusted settings input s

-- the words ask for help or the version
abbrev pub AskForHelp : List (List ℕ) → Type 0
AskForHelp words = IsRefusedWith words DisplayHelp ⊎ IsRefusedWith words DisplayVersion

-- where they are those of `check --strict`, the log that they name, read by their run and profile, can be trusted
abbrev pub AreTrusted : List (List ℕ) → Streams → Type 0
AreTrusted words s =
    (p q r : ValueParser) × ((rows : List Row) → subcommand_of (program_of words p q r) words ≡ Some (codes "check", rows) → one_of (codes "strict") rows ≡ Some (codes "true") →
    (settings : Settings) × (input : Input) × IsCheckOf rows settings × IsInputOf rows input × IsTrusted settings input s)

-- a law: words that end with status 0 ask for help, or can be trusted where they are those of `check --strict`
abbrev pub StrictWordsAreTrusted : Type 0
StrictWordsAreTrusted = (words : List (List ℕ)) (s : Streams) → AnswersWords words s NoFail → AskForHelp words ⊎ AreTrusted words s
