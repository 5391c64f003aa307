-- The ledger text: a text line for the version, which tells the profile; for each section a block of its header, its
-- events in canonical spelling and its rows; and a last text line with the number of blocks. Defined here.
use Rattle.std.specs.Prelude.{ℕ, ◌^◌, ◌<◌, ◌≤◌, List, ◌++◌, length, codes, All, flat_map, decimal}
use Rattle.pmf_event.specs.declared.{name.Name.{Name}, profile.Profile.{Profile}, profile.Profile.TheVariants.{One, Two}, section.TheConstants.{EVENT_LIMIT}}
use Rattle.pmf_storelog.specs.{Canonical.{line_of_event}, Spelling.{AllValid}}
use Rattle.pmf_verdict.specs.{Checked.{Checked, rows_in}, Text.{text_of_rows}}
use Rattle.pmf_ledger.specs.LedgerValue.{LedgerValue}

-- the version of a profile
abbrev pub version_of : Profile → List ℕ
version_of One = codes "PMFARM-LEDGER 1"
version_of Two = codes "PMFARM-LEDGER 2"

-- the section can be spelled: its name in 64 bits, and events within their number whose spans keep the limits
pub record IsSpelled (s : Checked) : Type 0 where
  pub run : s.section.name.run < 2 ^ 64
  pub number : s.section.name.number < 2 ^ 64
  pub few : length s.section.events ≤ EVENT_LIMIT
  pub valid : All AllValid s.section.events

-- `section R.N events=E rows=M`
unfoldable pub text_of_head : Name → ℕ → ℕ → List ℕ
text_of_head name events rows =
    codes "section " ++ decimal name.run ++ codes "." ++ decimal name.number ++ codes " events=" ++ decimal events ++ codes " rows=" ++ decimal rows ++ codes "\n"

-- a section's head, events and rows
unfoldable pub text_of_block : Checked → List ℕ
text_of_block s =
    text_of_head s.section.name (length s.section.events) (length (rows_in s)) ++ flat_map line_of_event s.section.events ++ text_of_rows (rows_in s)

-- `end verdicts=V`
unfoldable pub text_of_end : ℕ → List ℕ
text_of_end blocks = codes "end verdicts=" ++ decimal blocks ++ codes "\n"

-- the text of a ledger
abbrev pub text_of_ledger : LedgerValue → List ℕ
text_of_ledger ledger =
    version_of ledger.profile ++ codes "\n" ++ flat_map text_of_block ledger.sections ++ text_of_end (length ledger.sections)
