-- The text of the sections that were told, and how far it is written. Defined here.
use Rattle.std.specs.Prelude.{◌≡◌, ℕ, List, [], ◌++◌, Option, string_bytes}
use Rattle.pmf_device.specs.Pages.{IsPage}
use Rattle.pmf_event.specs.declared.profile.Profile.{Profile}
use Rattle.pmf_verdict.specs.Checked.{Checked}
use Rattle.pmf_ledger.specs.{declared.form.Form.{Form}, Telling.{HasTold, parts_after, text_before, text_behind}}
use Rattle.pmf_merge.specs.declared.written.Written.{Written}

-- the front of the text of these sections was written, and the rest of it is kept
pub record IsWritten (form : Form) (profile : Profile) (held holds : Option (List ℕ)) (out : List Checked) (written : Written) : Type 0 where
  pub told : HasTold form out written.teller
  pub front : List ℕ
  pub page : IsPage held holds front written.page
  pub whole : front ++ string_bytes written.rest ≡ text_before form profile ++ parts_after form [] out

-- this is the text of some sections
abbrev pub IsTextOfSome : Form → List ℕ → Type 0
IsTextOfSome form text = (profile : Profile) × (out : List Checked) × (text ≡ text_before form profile ++ parts_after form [] out ++ text_behind form out)
