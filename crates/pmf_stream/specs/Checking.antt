-- What check_stream reads, and the report or ledger text that it writes. Defined here.
use Rattle.std.specs.{Prelude.{◌≡◌, ◌≢◌, ◌*◌, ◌<◌, ◌≤◌, ◌⊎◌, min, nat_lt, if◌then◌else◌, Bool, true, false, List, ◌++◌, length, map, ℕ, Option, None, Some, Ok, Err}, Io.KnownBytes.{IsAtEnd}}
use Rattle.pmf_storelog.specs.{declared.fault.LogFault.{LogFault}, declared.fault.TheConstants.{LOG_LIMIT}, LogValue.{LogValue}, LogText.{log_of, shown_fault, IsFaultOfAll, out_of_memory}}
use Rattle.pmf_ledger.specs.{declared.form.Form.{Form}, declared.form.Form.TheVariants.{Report, Ledger}, declared.loading.TheConstants.{LEDGER_LIMIT}, Gathered.{IsLedgerOf}, AllKept.{AllKept, AllFilled}, LedgerText.{text_of_ledger}, LedgerValue.{LedgerValue}, Loading.{LoadsAs}, Report.{totals_of}, ReportTold.{sections_told, shown}, Telling.{text_told}}
use Rattle.pmf_lint.specs.{declared.warnings.Warnings.{Warnings}, Warnings.{warnings_of}}
use Rattle.pmf_farm.specs.{declared.fault.FarmFault.{FarmFault}, Running.{IsTaken}}
use Rattle.pmf_board.specs.{declared.board.TheConstants.{MOST_WORKERS}, Workers.{AreWorkers}}
use Rattle.pmf_stream.specs.{declared.checking.CheckLogFault.{CheckLogFault}, declared.checking.Done.{Done}, declared.ahead.TheConstants.{MOST_PARTS, PART}, declared.reading.TheConstants.{PIECE}, Reading.{HasReadBytes}}
use Rattle.pmf_request.specs.declared.settings.Settings.{Settings}
use Rattle.pmf_farm.specs.declared.fault.FarmFault.TheVariants as farm
use Rattle.pmf_stream.specs.declared.checking.CheckLogFault.TheVariants as checking

-- the stream was read to its end, and what was read is this log of the run, without a fault
pub record IsLogOf (run : ℕ) (old new : Option (List ℕ)) (log : LogValue) : Type 0 where
  pub bytes : List ℕ
  pub read : HasReadBytes LOG_LIMIT old new bytes
  pub ended : IsAtEnd new
  pub faultless : log_of run bytes ≡ Ok log

-- how many bytes a piece has at most: more where several workers read its parts
abbrev pub most_in_piece : ℕ → ℕ
most_in_piece workers = if nat_lt 1 workers then min workers MOST_PARTS * PART else PIECE

-- reading stopped with the piece in which the first fault stands: what was read before the last piece shows none
abbrev pub StopsAtFault : ℕ → List ℕ → Type 0
StopsAtFault most bytes = (before : List ℕ) × (piece : List ℕ) × (bytes ≡ before ++ piece) × (length piece ≤ most) × (shown_fault before ≡ None)

-- what was read has this first fault, and so has every log that begins so, unless the stream ended; and no more was
-- read than to the end of the piece that shows it
pub record IsFaultOf (run most : ℕ) (old new : Option (List ℕ)) (found : LogFault) : Type 0 where
  pub bytes : List ℕ
  pub read : HasReadBytes LOG_LIMIT old new bytes
  pub first : log_of run bytes ≡ Err found
  pub for_all : IsAtEnd new ⊎ IsFaultOfAll found bytes
  pub stops : StopsAtFault most bytes

-- in which form a checked log's ledger is written: as its report, or as the ledger text that is asked for in its place
abbrev pub form_of : Bool → Form
form_of false = Report
form_of true = Ledger

-- this text is written of a ledger in this form: a report tells just its sections, each with its own rows, and a ledger text loads as
-- this ledger
pub record IsWrittenOf (form : Form) (ledger : LedgerValue) (text : List ℕ) : Type 0 where
  pub text_is : text ≡ text_told form ledger
  pub told : form ≡ Report → sections_told text ≡ map shown ledger.sections
  pub loads : form ≡ Ledger → LoadsAs text ledger

-- the ledger text is asked for, and it has more bytes than one that is loaded
abbrev pub IsTooLong : Form → LedgerValue → Type 0
IsTooLong form ledger = (form ≡ Ledger) × (LEDGER_LIMIT < length (text_of_ledger ledger))

-- the workers take the log's sections, this is the report, or the ledger text, of the ledger of those by the profile,
-- and what is told of it is so; where no row fails, all that the sections assert holds, and where none is EMPTY, each assertion had
-- something to check
pub record Reports (settings : Settings) (log : LogValue) (done : Done) (text : List ℕ) : Type 0 where
  pub taken : IsTaken settings.workers log.sections
  pub ledger : LedgerValue
  pub gathered : IsLedgerOf settings.profile log.sections ledger
  pub written : IsWrittenOf (form_of settings.ledger) ledger text
  pub skipped : done.skipped ≡ log.skipped
  pub passes : done.passes ≡ (totals_of ledger.sections).pass
  pub fails : done.fails ≡ (totals_of ledger.sections).fail
  pub kept : done.fails ≡ 0 → AllKept log.sections
  pub filled : (totals_of ledger.sections).empty ≡ 0 → AllFilled log.sections

-- these are the warnings that `lint` has of a log, where they are asked for
abbrev pub AreWarnings : Bool → List ℕ → Option Warnings → Type 0
AreWarnings false bytes warnings = warnings ≡ None
AreWarnings true bytes warnings = warnings ≡ Some (warnings_of bytes)

-- what is so, and its bytes are those that were kept, where any are
abbrev pub HasKept : Bool → List ℕ → (P : Type 0) → (P → List ℕ) → Type 0
HasKept keeps kept P bytes = (is : P) × (keeps ≡ true → kept ≡ bytes is)

-- what was read is a log, this is its report, and these are its warnings
abbrev pub IsReportOf : Settings → Option (List ℕ) → Option (List ℕ) → Done → List ℕ → Type 0
IsReportOf settings left rest done text =
    (log : LogValue) × (read : IsLogOf settings.run left rest log) × Reports settings log done text × AreWarnings settings.strict read.bytes done.warnings

-- what was read has this first fault, want of memory aside
abbrev pub IsLogFaultOf : ℕ → ℕ → Option (List ℕ) → Option (List ℕ) → LogFault → Type 0
IsLogFaultOf run most left rest found = found ≢ out_of_memory → IsFaultOf run most left rest found

-- why a farm refuses the sections of a log: for its workers, or for want of memory; never for the sections
abbrev pub IsWorkersFault : ℕ → FarmFault → Type 0
IsWorkersFault workers farm.NoWorkers = workers ≡ 0
IsWorkersFault workers farm.TooManyWorkers = MOST_WORKERS < workers
IsWorkersFault workers farm.OutOfMemory = AreWorkers workers
IsWorkersFault workers _ = ⊥

-- the log is refused with this first fault; or it was read whole without a fault, and the farm refuses its workers, or the ledger of
-- its sections is too long to be written
abbrev pub IsCheckFaultOf : Settings → Option (List ℕ) → Option (List ℕ) → CheckLogFault → Type 0
IsCheckFaultOf settings left rest (checking.Log found) = IsLogFaultOf settings.run (most_in_piece settings.workers) left rest found
IsCheckFaultOf settings left rest (checking.Farm found) = (log : LogValue) × IsLogOf settings.run left rest log × IsWorkersFault settings.workers found
IsCheckFaultOf settings left rest checking.TooLong =
    (log : LogValue) × (ledger : LedgerValue) × IsLogOf settings.run left rest log × IsTaken settings.workers log.sections × IsLedgerOf settings.profile log.sections ledger
    × IsTooLong (form_of settings.ledger) ledger
