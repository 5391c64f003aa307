-- The report of a ledger, its summary, or its own text, as it is written section by section. Defined here.
use Rattle.std.specs.{Prelude.{◌≡◌, List, [], ◌∷◌, ◌++◌, length, codes, ℕ, Option, None, Some, if◌then◌else◌}, List.{list_all}}
use Rattle.pmf_event.specs.declared.profile.Profile.{Profile}
use Rattle.pmf_verdict.specs.Checked.{Checked}
use Rattle.pmf_ledger.specs.{declared.form.Form.{Form}, declared.form.Form.TheVariants.{Report, Summary, Ledger}, declared.last_run.LastRun.{LastRun}, declared.telling.Teller.{Teller}, LedgerText.{text_of_block, text_of_end, text_of_ledger, version_of}, LedgerValue.{LedgerValue}, Report.{report_of, text_of_section, text_of_totals, totals_of}, Summary.{is_of_run, line_of_run, summary_of, text_of_summarized}}

-- what is written of a ledger in this form
abbrev pub text_told : Form → LedgerValue → List ℕ
text_told Report ledger = report_of ledger.sections
text_told Summary ledger = summary_of ledger.sections
text_told Ledger ledger = text_of_ledger ledger

-- the last of some sections: those that stand in a row and are of one run
unfoldable pub last_run : List Checked → List Checked
last_run [] = []
last_run (s ∷ more) = if list_all (is_of_run s.section.name.run) more then s ∷ more else last_run more

-- the run of these sections, which are of one, if there are some
abbrev pub run_named : List Checked → Option ℕ
run_named [] = None
run_named (s ∷ more) = Some s.section.name.run

-- what stands behind the sections of a run, if there are some: the line of its sums
abbrev pub text_behind_run : List Checked → List ℕ
text_behind_run [] = []
text_behind_run (s ∷ more) = line_of_run s.section.name.run (totals_of (s ∷ more))

-- what stands between the sections of a run and the next section: the same, where that is of another run
abbrev pub text_between : List Checked → Checked → List ℕ
text_between [] next = []
text_between (s ∷ more) next = if is_of_run s.section.name.run next then [] else text_behind_run (s ∷ more)

-- what stands before the sections
abbrev pub text_before : Form → Profile → List ℕ
text_before Report profile = []
text_before Summary profile = []
text_before Ledger profile = version_of profile ++ codes "\n"

-- the part of a section that comes behind these
abbrev pub part_of : Form → List Checked → Checked → List ℕ
part_of Report before section = text_of_section section
part_of Summary before section = text_between (last_run before) section ++ text_of_summarized section
part_of Ledger before section = text_of_block section

-- the parts of sections that come behind these
abbrev pub parts_after : Form → List Checked → List Checked → List ℕ
parts_after form before [] = []
parts_after form before (s ∷ more) = part_of form before s ++ parts_after form (before ++ s ∷ []) more

-- what stands behind the sections
abbrev pub text_behind : Form → List Checked → List ℕ
text_behind Report sections = text_of_totals (totals_of sections)
text_behind Summary sections = text_behind_run (last_run sections) ++ text_of_totals (totals_of sections)
text_behind Ledger sections = text_of_end (length sections)

-- this is the last run of these sections, with its sums
pub record IsLastRun (sections : List Checked) (last : LastRun) : Type 0 where
  pub run : last.run ≡ run_named (last_run sections)
  pub totals : last.totals ≡ totals_of (last_run sections)

-- these sections were told
pub record HasTold (form : Form) (sections : List Checked) (teller : Teller) : Type 0 where
  pub asked : teller.form ≡ form
  pub totals : teller.totals ≡ totals_of sections
  pub last : IsLastRun sections teller.last
