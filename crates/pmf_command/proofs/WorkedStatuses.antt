-- Worked examples of how commands end, computed by the definitions: each status that `check` can end with, and the others of each command.
use Rattle.std.proofs.Common.{◌≡◌, Bool, true, false, None, Some, Ok, Err, refl}
use Rattle.pmf_lint.specs.{declared.warnings.Warnings.{Warnings}, Warnings.{are_due}}
use Rattle.pmf_storelog.specs.declared.fault.Cause.TheVariants.{BadNumber, OutOfMemory}
use Rattle.pmf_ledger.specs.declared.joining.JoinFault.TheVariants.{ProfileMismatch}
use Rattle.pmf_farm.specs.declared.fault.FarmFault.TheVariants.{NoWorkers}
use Rattle.pmf_query.specs.declared.refusal.LogRefusal.TheVariants as whole
use Rattle.pmf_stream.specs.declared.{checking.CheckLogFault.TheVariants.{Log, Farm}, fault.StreamFault.TheVariants.{ReadFault, Refused, WriteFault}, joining.JoinTextFault.TheVariants.{Join, TooLong}}
use Rattle.pmf_world.specs.declared.simulating.SimFault.TheVariants.{BadStep}
use Rattle.pmf_command.specs.{declared.status.Status.TheVariants.{NoFail, SomeFail, NoMemory}, Statuses.{exit_code_of, status_of, status_of_asked, status_of_check_fault, status_of_cut_fault, status_of_done, status_of_joined, status_of_linted, status_of_log_refusal, status_of_pieces, status_of_sim_fault, status_of_text_fault}}

-- the warnings of a log that may be cut off, if it is
abbrev cut_off : Bool → Warnings
cut_off is =
    record { asserts_nothing = false; checks_nothing = false; has_near = false; has_strange = false; is_open_ended = is; lacks_stop = false; is_misread = false }

strictly :
    (exit_code_of (status_of status_of_done status_of_check_fault (Ok (record { skipped = 0; passes = 3; fails = 0; warnings = Some (cut_off false) }))) ≡ 0)
    × (exit_code_of (status_of status_of_done status_of_check_fault (Ok (record { skipped = 0; passes = 3; fails = 0; warnings = Some (cut_off true) }))) ≡ 1)  -- lint warns
    × (exit_code_of (status_of status_of_done status_of_check_fault (Ok (record { skipped = 0; passes = 0; fails = 0; warnings = Some (cut_off false) }))) ≡ 1)  -- nothing passes
unfolding are_due
strictly = (refl, refl, refl)

checks :
    (exit_code_of (status_of status_of_done status_of_check_fault (Ok (record { skipped = 2; passes = 0; fails = 0; warnings = None }))) ≡ 0)  -- no row counts as fail
    × (exit_code_of (status_of status_of_done status_of_check_fault (Ok (record { skipped = 0; passes = 5; fails = 3; warnings = None }))) ≡ 1)  -- three do
    × (exit_code_of (status_of status_of_done status_of_check_fault (Err (Refused (Log (record { at = 2; cause = BadNumber }))))) ≡ 2)  -- the log is refused
    × (exit_code_of (status_of status_of_done status_of_check_fault (Err (Refused (Farm NoWorkers)))) ≡ 2)  -- no workers
    × (exit_code_of (status_of status_of_done status_of_check_fault (Err (Refused (Log (record { at = 0; cause = OutOfMemory }))))) ≡ 3)  -- no room for an event
    × (exit_code_of (status_of status_of_done status_of_check_fault (Err ReadFault)) ≡ 4)
    × (exit_code_of (status_of status_of_done status_of_check_fault (Err (WriteFault 7))) ≡ 4)
checks = (refl, refl, refl, refl, refl, refl, refl)

others :
    (status_of status_of_linted status_of_log_refusal (Ok (record { is_suspicious = true })) ≡ SomeFail)  -- lint warns
    × (status_of status_of_linted status_of_log_refusal (Err (Refused whole.OutOfMemory)) ≡ NoMemory)
    × (status_of status_of_pieces status_of_cut_fault (Ok (record { cuts = 2; files = 1; told = 0 })) ≡ NoFail)  -- cut lost nothing
    × (status_of status_of_pieces status_of_cut_fault (Ok (record { cuts = 2; files = 1; told = 1 })) ≡ SomeFail)  -- it may have
    × (exit_code_of (status_of status_of_joined status_of_text_fault (Err (Refused (Join ProfileMismatch)))) ≡ 2)
    × (exit_code_of (status_of status_of_joined status_of_text_fault (Err (Refused TooLong))) ≡ 2)  -- the ledger text can't be loaded
    × (exit_code_of (status_of status_of_asked status_of_sim_fault (Err (Refused (BadStep 3)))) ≡ 2)
others = (refl, refl, refl, refl, refl, refl, refl)
