-- What `why --patch` answers: the log with the changes put in that are to cure its rows. Defined here.
use Rattle.std.specs.{Prelude.{◌≡◌, ◌⊎◌, ℕ, zero, true, false, List, codes, None, Ok}, List.{AllZip}}
use Rattle.pmf_event.specs.Section.{Trace}
use Rattle.pmf_request.specs.declared.settings.{Patches.{Patches}, Reasons.{Reasons}}
use Rattle.pmf_storelog.specs.{LogText.{log_of}, LogValue.{LogValue}}
use Rattle.pmf_verdict.specs.Checked.{Checked}
use Rattle.pmf_cause.specs.{declared.edit.Edit.{Edit}, Cure.{cured, SpoilsNothing}}
use Rattle.pmf_query.specs.Refusals.{text_of_refusal}
use Rattle.pmf_why.specs.{declared.refusal.PatchRefusal.{PatchRefusal}, Reasons.{is_asked}, Why.{HasNamed, IsWhyRefusal}}
use Rattle.pmf_why.specs.declared.refusal.PatchRefusal.TheVariants as refusal

-- the section, to be checked by the profile that is asked for
abbrev pub checked_by : Patches → Trace → Checked
checked_by asked t = record { section = t; profile = asked.profile }

-- the section is asked for, and becomes what it is with changes by which nothing fails that didn't
pub record IsCured (asked : Patches) (old new : Trace) : Type 0 where
  pub asked_for : is_asked asked.section old.name.number ≡ true
  pub edits : List Edit
  pub spoils_nothing : SpoilsNothing (checked_by asked old) edits
  pub is : new ≡ (cured (checked_by asked old) edits).section

-- the section stays, or becomes that
abbrev pub IsPatched : Patches → Trace → Trace → Type 0
IsPatched asked old new = (new ≡ old) ⊎ IsCured asked old new

-- the text is a log of the run, without a fault, that has the sections of the other log, one for one, each of which stays or is cured; and
-- as many records are skipped
pub record IsPatchOf (asked : Patches) (log : LogValue) (text : List ℕ) : Type 0 where
  pub patched : LogValue
  pub reads : log_of asked.run text ≡ Ok patched
  pub sections : AllZip (IsPatched asked) log.sections patched.sections
  pub skipped : patched.skipped ≡ log.skipped

-- the bytes are a log of the run, without a fault
abbrev pub IsWell : Patches → List ℕ → Type 0
IsWell asked bytes = (log : LogValue) × (log_of asked.run bytes ≡ Ok log)

-- the same, it has the section that is named, and the text is it with changes put in
abbrev pub IsPatch : Patches → List ℕ → List ℕ → Type 0
IsPatch asked bytes text = (log : LogValue) × (log_of asked.run bytes ≡ Ok log) × HasNamed asked.section log × IsPatchOf asked log text

-- ---- no answer

-- `why` with the same words
abbrev pub reasons_of : Patches → Reasons
reasons_of asked = record { run = asked.run; profile = asked.profile; section = asked.section; event = None; first = zero; all = false }

-- why there is no answer: why `why` has none; or the log is well, and no such text was made of it
abbrev pub IsPatchRefusal : Patches → List ℕ → PatchRefusal → Type 0
IsPatchRefusal asked bytes (refusal.Why found) = IsWhyRefusal (reasons_of asked) bytes found
IsPatchRefusal asked bytes refusal.TooLong = IsWell asked bytes

-- the text of a refusal
abbrev pub text_of_patch_refusal : PatchRefusal → List ℕ
text_of_patch_refusal (refusal.Why found) = text_of_refusal found.sought found.fault
text_of_patch_refusal refusal.TooLong = codes "the log with its cures is longer than a log may be"
