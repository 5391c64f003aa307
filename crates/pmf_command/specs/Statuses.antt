-- The exit statuses (defined here).
use Rattle.std.specs.Prelude.{◌≡◌, ◌⊎◌, ℕ, ◌==◌, nat_lt, Bool, true, not, ◌&&◌, Option, None, Some, Result, Ok, Err, if◌then◌else◌}
use Rattle.clap.specs.declared.error.kind.{ErrorKind.{ErrorKind}, ErrorKind.TheVariants.{DisplayHelp, DisplayVersion, OutOfMemory}}
use Rattle.pmf_storelog.specs.declared.fault.{Cause.{Cause}, LogFault.{LogFault}}
use Rattle.pmf_cut.specs.declared.fault.CutFault.{CutFault}
use Rattle.pmf_ledger.specs.declared.{block_lines.BlockFault.{BlockFault}, joining.JoinFault.{JoinFault}, loading.LedgerFault.{LedgerFault}, totals.Totals.{Totals}}
use Rattle.pmf_merge.specs.declared.fault.MergeFault.{MergeFault}
use Rattle.pmf_farm.specs.declared.fault.FarmFault.{FarmFault}
use Rattle.pmf_stream.specs.declared.{checking.CheckLogFault.{CheckLogFault}, checking.Done.{Done}, cutting.Pieces.{Pieces}, joining.Joined.{Joined}, joining.JoinTextFault.{JoinTextFault}, fault.StreamFault.{StreamFault}}
use Rattle.pmf_query.specs.{declared.refusal.EventFault.{EventFault}, declared.refusal.EventRefusal.{EventRefusal}, declared.refusal.LogRefusal.{LogRefusal}}
use Rattle.pmf_lint.specs.{declared.lint.Linted.{Linted}, declared.warnings.Warnings.{Warnings}, Warnings.{are_due}}
use Rattle.pmf_why.specs.declared.refusal.PatchRefusal.{PatchRefusal}
use Rattle.pmf_world.specs.declared.{fault.WorldNewFault.{WorldNewFault}, simulating.SimFault.{SimFault}}
use Rattle.pmf_command.specs.declared.status.{Status.{Status}, Status.TheVariants.{NoFail, SomeFail, Refused, NoMemory, DeviceFault}}
use Rattle.pmf_cut.specs.declared.fault.CutFault.TheVariants as cutting
use Rattle.pmf_storelog.specs.declared.fault.Cause.TheVariants as log
use Rattle.pmf_ledger.specs.declared.block_lines.BlockFault.TheVariants as block
use Rattle.pmf_ledger.specs.declared.joining.JoinFault.TheVariants as joining
use Rattle.pmf_ledger.specs.declared.loading.LedgerFault.TheVariants as loading
use Rattle.pmf_farm.specs.declared.fault.FarmFault.TheVariants as farm
use Rattle.pmf_stream.specs.declared.checking.CheckLogFault.TheVariants as checking
use Rattle.pmf_query.specs.declared.refusal.EventFault.TheVariants as event
use Rattle.pmf_query.specs.declared.refusal.LogRefusal.TheVariants as whole
use Rattle.pmf_why.specs.declared.refusal.PatchRefusal.TheVariants as patching
use Rattle.pmf_stream.specs.declared.joining.JoinTextFault.TheVariants as texts
use Rattle.pmf_stream.specs.declared.fault.StreamFault.TheVariants as stream
use Rattle.pmf_merge.specs.declared.fault.MergeFault.TheVariants as merging
use Rattle.pmf_world.specs.declared.fault.WorldNewFault.TheVariants as new
use Rattle.pmf_world.specs.declared.simulating.SimFault.TheVariants as sim

-- the number that the program exits with
abbrev pub exit_code_of : Status → ℕ
exit_code_of NoFail = 0
exit_code_of SomeFail = 1
exit_code_of Refused = 2
exit_code_of NoMemory = 3
exit_code_of DeviceFault = 4

-- how the program ends where the words give no request: help and the version are no fault
abbrev pub status_of_kind : ErrorKind → Status
status_of_kind DisplayHelp = NoFail
status_of_kind DisplayVersion = NoFail
status_of_kind OutOfMemory = NoMemory
status_of_kind _ = Refused

-- a status that an error of this kind may end with: its own, or that its text was not written
abbrev pub IsAnswerTo : ErrorKind → Status → Type 0
IsAnswerTo kind status =
    (status ≡ status_of_kind kind) ⊎ ((status ≡ NoMemory) ⊎ ((status_of_kind kind ≡ NoFail) × (status ≡ DeviceFault)))

-- how the program ends where so many rows count as fail
abbrev pub status_of_fails : ℕ → Status
status_of_fails fails = if fails == 0 then NoFail else SomeFail

-- whether no warning was asked for; or something passes, and none is due
abbrev pub is_trusted : ℕ → Option Warnings → Bool
is_trusted passes None = true
is_trusted passes (Some warnings) = nat_lt 0 passes && not (are_due warnings)

-- how the program ends where the log is reported
abbrev pub status_of_done : Done → Status
status_of_done done = if is_trusted done.passes done.warnings then status_of_fails done.fails else SomeFail

-- how the program ends where a log is refused for this cause
abbrev pub status_of_cause : Cause → Status
status_of_cause log.OutOfMemory = NoMemory
status_of_cause _ = Refused

-- how the program ends where a log is refused
abbrev pub status_of_log_fault : LogFault → Status
status_of_log_fault fault = status_of_cause fault.cause

-- how the program ends where a farm refuses its workers or its sections
abbrev pub status_of_farm_fault : FarmFault → Status
status_of_farm_fault farm.OutOfMemory = NoMemory
status_of_farm_fault _ = Refused

-- how the program ends where a log is not checked
abbrev pub status_of_check_fault : CheckLogFault → Status
status_of_check_fault (checking.Log fault) = status_of_log_fault fault
status_of_check_fault (checking.Farm fault) = status_of_farm_fault fault
status_of_check_fault checking.TooLong = Refused

-- how the program ends where rows are explained, causes told, a log patched, an event located, or the schedule played
abbrev pub status_of_asked : Unit {0} → Status
status_of_asked done = NoFail

-- how the program ends where an event is not told of
abbrev pub status_of_event_fault : EventFault → Status
status_of_event_fault (event.Log fault) = status_of_log_fault fault
status_of_event_fault event.NoSection = Refused
status_of_event_fault event.NoEvent = Refused
status_of_event_fault event.OutOfMemory = NoMemory

abbrev pub status_of_event_refusal : EventRefusal → Status
status_of_event_refusal refusal = status_of_event_fault refusal.fault

-- how the program ends where a log is not patched
abbrev pub status_of_patch_refusal : PatchRefusal → Status
status_of_patch_refusal (patching.Why found) = status_of_event_refusal found
status_of_patch_refusal patching.TooLong = Refused

-- how the program ends where a log is not told of
abbrev pub status_of_log_refusal : LogRefusal → Status
status_of_log_refusal (whole.Log fault) = status_of_log_fault fault
status_of_log_refusal whole.OutOfMemory = NoMemory

-- how the program ends where a log was looked through
abbrev pub status_of_linted : Linted → Status
status_of_linted told = if told.is_suspicious then SomeFail else NoFail

-- how the program ends where a log was cut: whether anything was said that the cuts may have changed
abbrev pub status_of_pieces : Pieces → Status
status_of_pieces pieces = if pieces.told == 0 then NoFail else SomeFail

-- how the program ends where a log is not cut
abbrev pub status_of_cut_fault : CutFault → Status
status_of_cut_fault (cutting.Log fault) = status_of_log_fault fault
status_of_cut_fault cutting.OutOfMemory = NoMemory
status_of_cut_fault _ = Refused

-- how the program ends where ledgers are joined
abbrev pub status_of_joined : Joined → Status
status_of_joined joined = status_of_fails joined.fails

-- how the program ends where a ledger text is refused
abbrev pub status_of_ledger_fault : LedgerFault → Status
status_of_ledger_fault (loading.Log fault) = status_of_log_fault fault
status_of_ledger_fault loading.OutOfMemory = NoMemory
status_of_ledger_fault _ = Refused

-- how the program ends where two ledgers are not joined
abbrev pub status_of_join_fault : JoinFault → Status
status_of_join_fault joining.OutOfMemory = NoMemory
status_of_join_fault _ = Refused

-- how the program ends where the texts of ledgers are not joined
abbrev pub status_of_text_fault : JoinTextFault → Status
status_of_text_fault (texts.Load index fault) = status_of_ledger_fault fault
status_of_text_fault (texts.Join fault) = status_of_join_fault fault
status_of_text_fault texts.TooLong = Refused
status_of_text_fault texts.OutOfMemory = NoMemory

-- how the program ends where a text is refused that is merged
abbrev pub status_of_block_fault : BlockFault → Status
status_of_block_fault (block.Text fault) = status_of_ledger_fault fault
status_of_block_fault _ = Refused

-- how the program ends where ledgers are not merged
abbrev pub status_of_merge_fault : MergeFault → Status
status_of_merge_fault (merging.Text index fault) = status_of_block_fault fault
status_of_merge_fault (merging.Read index) = DeviceFault
status_of_merge_fault (merging.Write written) = DeviceFault
status_of_merge_fault merging.OutOfMemory = NoMemory
status_of_merge_fault _ = Refused

-- how the program ends where they are merged, or not
abbrev pub status_of_merge : Result Totals MergeFault → Status
status_of_merge (Ok totals) = status_of_fails totals.fail
status_of_merge (Err fault) = status_of_merge_fault fault

-- how the program ends where they are merged as they stand: as it was answered whether a row counts as fail
abbrev pub status_of_trust : Result Bool MergeFault → Status
status_of_trust (Ok fails) = if fails then SomeFail else NoFail
status_of_trust (Err fault) = status_of_merge_fault fault

-- how the program ends where there is no such world
abbrev pub status_of_new_fault : WorldNewFault → Status
status_of_new_fault new.OutOfMemory = NoMemory
status_of_new_fault _ = Refused

-- how the program ends where the schedule is not played
abbrev pub status_of_sim_fault : SimFault → Status
status_of_sim_fault sim.TooLong = Refused
status_of_sim_fault (sim.BadStep line) = Refused
status_of_sim_fault (sim.Log fault) = status_of_log_fault fault
status_of_sim_fault (sim.New fault) = status_of_new_fault fault
status_of_sim_fault sim.OutOfMemory = NoMemory

-- how the program ends where the stream is not answered, from how it ends after a refusal
abbrev pub status_of_fault : {E : Type 0} → (E → Status) → StreamFault E → Status
status_of_fault status_of_found stream.ReadFault = DeviceFault
status_of_fault status_of_found (stream.Refused found) = status_of_found found
status_of_fault status_of_found (stream.WriteFault written) = DeviceFault
status_of_fault status_of_found stream.OutOfMemory = NoMemory

-- how the program ends after this answer of a command, from how it ends after what was done and after a refusal
abbrev pub status_of : {T E : Type 0} → (T → Status) → (E → Status) → Result T (StreamFault E) → Status
status_of status_of_told status_of_found (Ok told) = status_of_told told
status_of status_of_told status_of_found (Err fault) = status_of_fault status_of_found fault
