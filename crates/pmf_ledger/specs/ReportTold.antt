-- What the text of a report tells, as it is read text line by text line. Defined here, and not by how the text is written.
use Rattle.std.specs.{Prelude.{◌≡◌, ⊤, ℕ, ◌^◌, ◌<◌, ◌==◌, nat_eq, List, [], ◌∷◌, length, map, take, drop, Option, Some, None, option_map, if◌then◌else◌, codes, All}, List.{prefix_len, starts_with}}
use Rattle.pmf_event.specs.{declared.finding.Finding.{Finding}, declared.finding.Finding.TheVariants.{PersistPass, PersistFail, PersistEmpty, OrderedPass, OrderedFail, OrderedSameLine, OrderedEmpty, FlushDoubled, FlushNeedless, NoBackup, DupLog, CheckPass, CheckFail, TxStillOpen, Unmatched, Outside, Nested, Unopened, Unclosed}, declared.name.Name.{Name}, declared.row.Row.{Row}}
use Rattle.pmf_storelog.specs.Numbers.{is_digit_in, numeral_of, number_before, number_in_front}
use Rattle.pmf_verdict.specs.{Checked.{Checked, rows_in}, Rows.{row_at}}
use Rattle.pmf_ledger.specs.{declared.totals.Totals.{Totals}, Loading.{number_behind, lines_of}, Report.{report_of, totals_of}}

-- ---- numbers

-- what a number and the text behind it tell; nothing, without a number
abbrev pub told_by : {A : Type 0} → (ℕ → List ℕ → Option A) → Option (ℕ × List ℕ) → Option A
told_by tells None = None
told_by tells (Some found) = tells found.0 found.1

-- this, where nothing follows
abbrev pub at_last : {A : Type 0} → A → List ℕ → Option A
at_last said [] = Some said
at_last said (c ∷ rest) = None

-- the number that `0x` and all hexadecimal digits behind it spell, and the text behind them
unfoldable pub address_in_front : List ℕ → Option (ℕ × List ℕ)
address_in_front text =
    let k = prefix_len (is_digit_in 16) (drop 2 text) in
    if starts_with nat_eq text (codes "0x") then number_before (drop k (drop 2 text)) (numeral_of 16 16 (take k (drop 2 text))) else None

-- the address behind this word, and the text behind it
unfoldable pub address_behind : List ℕ → List ℕ → Option (ℕ × List ℕ)
address_behind word text = if starts_with nat_eq text word then address_in_front (drop (length word) text) else None

-- ---- rows

-- what ` byte=B` tells, to the end
abbrev pub byte_told : (ℕ → Finding) → List ℕ → Option Finding
byte_told finding text = told_by (λ byte rest. at_last (finding byte) rest) (address_behind (codes " byte=") text)

-- ` byte=B crash=K`, whose crash is at this place
abbrev pub crash_told : ℕ → (ℕ → Finding) → List ℕ → Option Finding
crash_told k finding text =
    told_by (λ byte rest. told_by (λ crash last. if crash == k then at_last (finding byte) last else None) (number_behind (codes " crash=") rest)) (address_behind (codes " byte=") text)

-- ` byte=B after=A`, and what is told behind it
abbrev pub pair_told : (ℕ → ℕ → List ℕ → Option Finding) → List ℕ → Option Finding
pair_told tells text = told_by (λ byte rest. told_by (λ after last. tells byte after last) (address_behind (codes " after=") rest)) (address_behind (codes " byte=") text)

-- ` line=L lines=N`
abbrev pub lines_told : (ℕ → ℕ → Finding) → List ℕ → Option Finding
lines_told finding text = told_by (λ line rest. told_by (λ lines last. at_last (finding line lines) last) (number_behind (codes " lines=") rest)) (address_behind (codes " line=") text)

-- a number behind this word
abbrev pub number_told : List ℕ → (ℕ → Finding) → List ℕ → Option Finding
number_told word finding text = told_by (λ number rest. at_last (finding number) rest) (number_behind word text)

-- the words of each finding at place k, and what tells the rest of it
unfoldable pub words_at : ℕ → List (List ℕ × (List ℕ → Option Finding))
words_at k =
    (codes " PERSIST PASS", at_last PersistPass)
    ∷ (codes " PERSIST FAIL", crash_told k PersistFail)
    ∷ (codes " PERSIST EMPTY", at_last PersistEmpty)
    ∷ (codes " ORDERED PASS", at_last OrderedPass)
    ∷ (codes " ORDERED FAIL", pair_told (λ byte after rest. number_told (codes " crash=") (λ crash. OrderedFail byte after crash) rest))
    ∷ (codes " ORDERED SAMELINE", pair_told (λ byte after rest. at_last (OrderedSameLine byte after) rest))
    ∷ (codes " ORDERED EMPTY", at_last OrderedEmpty)
    ∷ (codes " FLUSH DOUBLED", lines_told FlushDoubled)
    ∷ (codes " FLUSH NEEDLESS", lines_told FlushNeedless)
    ∷ (codes " STORE NOBACKUP", byte_told NoBackup)
    ∷ (codes " TXADD DUPLOG", byte_told DupLog)
    ∷ (codes " TXADD OUTSIDE", at_last Outside)
    ∷ (codes " TXEND UNMATCHED", at_last Unmatched)
    ∷ (codes " CHECKSTART NESTED", at_last Nested)
    ∷ (codes " CHECKEND PASS", at_last CheckPass)
    ∷ (codes " CHECKEND FAIL", crash_told k CheckFail)
    ∷ (codes " CHECKEND TXOPEN", number_told (codes " depth=") TxStillOpen)
    ∷ (codes " CHECKEND UNOPENED", at_last Unopened)
    ∷ (codes " SECTION UNCLOSED", number_told (codes " start=") Unclosed)
    ∷ []

-- the finding whose words the text begins with
abbrev pub finding_told : List (List ℕ × (List ℕ → Option Finding)) → List ℕ → Option Finding
finding_told [] text = None
finding_told ((words, tells) ∷ more) text = if starts_with nat_eq text words then tells (drop (length words) text) else finding_told more text

-- the row that a text line tells: its place, and then its finding
unfoldable pub row_told : List ℕ → Option Row
row_told text = told_by (λ k rest. option_map (row_at k) (finding_told (words_at k) rest)) (number_in_front text)

-- ---- sections

-- a section as a report tells it: its name, the number of its events, and its rows
pub record Told : Type 0 where
  pub name : Name
  pub events : ℕ
  pub rows : List Row

-- what a checked section is told as
abbrev pub shown : Checked → Told
shown s = record { name = s.section.name; events = length s.section.events; rows = rows_in s }

-- what `section R.N events=E` tells, whatever follows
unfoldable pub header_told : List ℕ → Option Told
header_told text =
    told_by (λ run second. told_by (λ number third. told_by (λ events rest. Some (record { name = record { run = run; number = number }; events = events; rows = [] }))
    (number_behind (codes " events=") third)) (number_behind (codes ".") second)) (number_behind (codes "section ") text)

-- the rows that some text lines begin with
abbrev pub row_before : Option Row → List Row → List Row
row_before None rows = []
row_before (Some row) rows = row ∷ rows

unfoldable pub rows_told : List (List ℕ) → List Row
rows_told [] = []
rows_told (line ∷ lines) = row_before (row_told line) (rows_told lines)

-- a header, if the first text line is one and no row, with these rows, before the sections of the other text lines
abbrev pub header_before : Option Row → Option Told → List Row → List Told → List Told
header_before None (Some header) rows sections = record { name = header.name; events = header.events; rows = rows } ∷ sections
header_before _ _ rows sections = sections

-- the sections of some text lines: each header has the rows that follow it
unfoldable pub sections_in : List (List ℕ) → List Told
sections_in [] = []
sections_in (line ∷ lines) = header_before (row_told line) (header_told line) (rows_told lines) (sections_in lines)

-- the sections of a report
unfoldable pub sections_told : List ℕ → List Told
sections_told text = sections_in (lines_of text)

-- ---- sums

-- ` pass=P fail=F warn=W empty=M`, to the end
unfoldable pub counts_told : ℕ → List ℕ → Option Totals
counts_told sections text =
    told_by (λ pass second. told_by (λ fail third. told_by (λ warn fourth. told_by (λ empty rest.
    at_last (record { sections = sections; pass = pass; fail = fail; warn = warn; empty = empty }) rest)
    (number_behind (codes " empty=") fourth)) (number_behind (codes " warn=") third)) (number_behind (codes " fail=") second)) (number_behind (codes " pass=") text)

-- what `total sections=S` and the sums tell
unfoldable pub sums_told : List ℕ → Option Totals
sums_told text = told_by counts_told (number_behind (codes "total sections=") text)

-- what the last text line tells
abbrev pub last_sums : List (List ℕ) → Option Totals
last_sums [] = None
last_sums (line ∷ []) = sums_told line
last_sums (line ∷ other ∷ lines) = last_sums (other ∷ lines)

-- the sums of a report
unfoldable pub totals_told : List ℕ → Option Totals
totals_told text = last_sums (lines_of text)

-- ---- laws, which the crate's empty public functions prove

-- the numbers that the finding tells are below 2^64
abbrev pub FitsFinding : Finding → Type 0
FitsFinding (PersistFail byte) = byte < 2 ^ 64
FitsFinding (OrderedFail byte after crash) = (byte < 2 ^ 64) × (after < 2 ^ 64) × (crash < 2 ^ 64)
FitsFinding (OrderedSameLine byte after) = (byte < 2 ^ 64) × (after < 2 ^ 64)
FitsFinding (FlushDoubled line lines) = (line < 2 ^ 64) × (lines < 2 ^ 64)
FitsFinding (FlushNeedless line lines) = (line < 2 ^ 64) × (lines < 2 ^ 64)
FitsFinding (NoBackup byte) = byte < 2 ^ 64
FitsFinding (DupLog byte) = byte < 2 ^ 64
FitsFinding (CheckFail byte) = byte < 2 ^ 64
FitsFinding (TxStillOpen depth) = depth < 2 ^ 64
FitsFinding (Unclosed start) = start < 2 ^ 64
FitsFinding _ = ⊤

-- and so is the place of the row
abbrev pub FitsRow : Row → Type 0
FitsRow row = (row.place < 2 ^ 64) × FitsFinding row.finding

-- so are the numbers of a section's name, how many events it has, and the numbers of its rows; all are, of any that was checked
pub record FitsSection (s : Checked) : Type 0 where
  pub run : s.section.name.run < 2 ^ 64
  pub number : s.section.name.number < 2 ^ 64
  pub events : length s.section.events < 2 ^ 64
  pub rows : All FitsRow (rows_in s)

-- and the sums of sections
pub record FitsTotals (totals : Totals) : Type 0 where
  pub sections : totals.sections < 2 ^ 64
  pub pass : totals.pass < 2 ^ 64
  pub fail : totals.fail < 2 ^ 64
  pub warn : totals.warn < 2 ^ 64
  pub empty : totals.empty < 2 ^ 64

-- the report of some sections tells exactly these, each with its own rows
abbrev pub ReportsTellSections : Type 0
ReportsTellSections = (sections : List Checked) → All FitsSection sections → sections_told (report_of sections) ≡ map shown sections

-- and their sums
abbrev pub ReportsTellTotals : Type 0
ReportsTellTotals = (sections : List Checked) → FitsTotals (totals_of sections) → totals_told (report_of sections) ≡ Some (totals_of sections)
