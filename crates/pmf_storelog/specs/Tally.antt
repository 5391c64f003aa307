-- What the tally of a reader stands for: a list of records, none of them faulty. Defined here.
use Rattle.std.specs.Prelude.{◌≡◌, ◌≢◌, ℕ, ◌+◌, List, length, None, Result, Ok, Err}
use Rattle.pmf_storelog.specs.{LogText.{events_in, numbers_of, current_of, skipped_of, first_fault}, Sections.{HasSections}, declared.fault.Cause.{Cause}, declared.fault.Cause.TheVariants.{OutOfMemory}, declared.fault.LogFault.{LogFault}, declared.tally.Tally.{Tally}}

-- the tally is that of these records of the run, none of them faulty
pub record HasTaken (run : ℕ) (records : List (List ℕ)) (tally : Tally) : Type 0 where
  pub faultless : first_fault records ≡ None
  pub sections : HasSections run (numbers_of records) (events_in records) (current_of records) tally.sections
  pub count : tally.records ≡ length records
  pub skipped : tally.skipped ≡ skipped_of records

-- new is old with one more record, which is skipped
pub record AddsSkipped (old new : Tally) : Type 0 where
  pub sections : new.sections ≡ old.sections
  pub count : new.records ≡ old.records + 1
  pub skipped : new.skipped ≡ old.skipped + 1

-- new is old with one more record, which its section took
pub record AddsRecord (old new : Tally) : Type 0 where
  pub sections : new.sections ≡ old.sections
  pub count : new.records ≡ old.records + 1
  pub skipped : new.skipped ≡ old.skipped

-- the fault is the cause for which the next record was not taken
abbrev pub IsFaultFor : Result (Unit {0}) Cause → Tally → LogFault → Type 0
IsFaultFor (Ok done) tally fault = ⊥
IsFaultFor (Err cause) tally fault = (cause ≢ OutOfMemory) × (fault ≡ record { at = tally.records + 1; cause = cause })
