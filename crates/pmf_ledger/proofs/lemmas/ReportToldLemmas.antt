-- The report of some sections tells these sections.
use Rattle.std.{proofs.Common.{◌≡◌, ℕ, ◌^◌, ◌<◌, ◌==◌, if◌then◌else◌, List, [], ◌∷◌, ◌++◌, length, map, Option, Some, None, refl, sym, ◌∙◌, ap, arith, rules, append_assoc, append-nil, codes, decimal, flat_map, take_at, drop_at}, specs.List.{AllByRecursion}, proofs.lemmas.Fmt.{digits_is_IsNumeral}, proofs.lemmas.Bool.Decides.{Decides-eqb}, proofs.lemmas.List.Elements.{recursion_from_All}, proofs.lemmas.Slice.Eq.{bytes_eq-Decides}, proofs.lemmas.Grind.{common_steps}}
use Rattle.pmf_event.specs.{Address.{address}, declared.finding.Finding.{Finding}, declared.finding.Finding.TheVariants.{PersistFail, OrderedFail, OrderedSameLine, FlushDoubled, FlushNeedless, NoBackup, DupLog, CheckFail, TxStillOpen, Unclosed}, declared.row.Row.{Row}}
use Rattle.pmf_storelog.{specs.Numbers.{is_numeral, numeral_of, number_in_front}, proofs.CanonicalLemmas.{hex-length, numeral_of-digits}, proofs.FrontLemmas.{BeginsWithNone, BeginsWithNoDigit, digits-front, number_in_front-decimal}, proofs.PlainRecordLemmas.{text_of_lines}}
use Rattle.pmf_verdict.specs.{Checked.{Checked, rows_in}, Text.{text_of_pair, text_of_finding}}
use Rattle.pmf_ledger.{specs.declared.totals.Totals.{Totals}, specs.Loading.{number_behind}, specs.Report.{totals_of, text_of_counts, text_of_header, text_of_section, text_of_totals, report_of}, specs.ReportTold.{told_by, at_last, address_in_front, address_behind, byte_told, crash_told, pair_told, lines_told, number_told, words_at, finding_told, row_told, Told, shown, header_told, row_before, rows_told, sections_in, sections_told, counts_told, sums_told, last_sums, totals_told, FitsFinding, FitsRow, FitsSection, FitsTotals, ReportsTellSections, ReportsTellTotals}, proofs.lemmas.LedgerTextLemmas.{row_lines, rows-one, number_behind-word}, proofs.lemmas.SpelledLemmas.{OneLine, one-append, decimal-one, text_without_end, lines_of-lines, lines-append, each-append}}

-- ---- numbers

-- what is written of an address reads as the address, whatever follows it that begins with no digit
address_behind-word : (word : List ℕ) (n : ℕ) (rest : List ℕ) → n < 2 ^ 64 → BeginsWithNone 16 rest → address_behind word (word ++ (address n ++ rest)) ≡ Some (n, rest)
unfolding address_behind address_in_front
address_behind-word word n rest small none = grind (arith, common_steps, digits_is_IsNumeral, take_at, bytes_eq-Decides, drop_at, digits-front, numeral_of-digits, hex-length)

-- ---- rows

two : (a n b m : List ℕ) → a ++ n ++ b ++ m ≡ a ++ (n ++ (b ++ (m ++ [])))
two a n b m = ap (λ last. a ++ n ++ b ++ last) (sym (append-nil m)) ∙ append_assoc (a ++ n) b (m ++ []) ∙ append_assoc a n (b ++ (m ++ []))

one : (a n : List ℕ) → a ++ n ≡ a ++ (n ++ [])
one a n = ap (λ last. a ++ last) (sym (append-nil n))

byte-is : (finding : ℕ → Finding) (b : ℕ) → b < 2 ^ 64 → byte_told finding (codes " byte=" ++ address b) ≡ Some (finding b)
byte-is finding b small =
    ap (byte_told finding) (one (codes " byte=") (address b)) ∙ ap (told_by (λ byte rest. at_last (finding byte) rest)) (address_behind-word (codes " byte=") b [] small tt)

crash-is : (k : ℕ) (finding : ℕ → Finding) (b : ℕ) → k < 2 ^ 64 → b < 2 ^ 64 → crash_told k finding (codes " byte=" ++ address b ++ codes " crash=" ++ decimal k) ≡ Some (finding b)
crash-is k finding b here small =
    let checked = λ (byte crash : ℕ) (last : List ℕ). if crash == k then at_last (finding byte) last else None in
    ap (crash_told k finding) (two (codes " byte=") (address b) (codes " crash=") (decimal k))
    ∙ ap (told_by (λ byte rest. told_by (checked byte) (number_behind (codes " crash=") rest))) (address_behind-word (codes " byte=") b (codes " crash=" ++ (decimal k ++ [])) small refl)
    ∙ ap (told_by (checked b)) (number_behind-word (codes " crash=") k [] here tt) ∙ ap (λ v. if v then Some (finding b) else None) ((Decides-eqb k k).1 refl)

pair-is : (tells : ℕ → ℕ → List ℕ → Option Finding) (x y : ℕ) (last : List ℕ) → x < 2 ^ 64 → y < 2 ^ 64 → BeginsWithNone 16 last →
    pair_told tells (codes " byte=" ++ (address x ++ (codes " after=" ++ (address y ++ last)))) ≡ tells x y last
pair-is tells x y last one_small other_small none = search (rules, address_behind-word)

lines-is : (finding : ℕ → ℕ → Finding) (line n : ℕ) → line < 2 ^ 64 → n < 2 ^ 64 → lines_told finding (codes " line=" ++ address line ++ codes " lines=" ++ decimal n) ≡ Some (finding line n)
lines-is finding line n one_small other_small =
    ap (lines_told finding) (two (codes " line=") (address line) (codes " lines=") (decimal n))
    ∙ ap (told_by (λ first rest. told_by (λ lines last. at_last (finding first lines) last) (number_behind (codes " lines=") rest))) (address_behind-word (codes " line=") line (codes " lines=" ++ (decimal n ++ [])) one_small refl)
    ∙ ap (told_by (λ lines last. at_last (finding line lines) last)) (number_behind-word (codes " lines=") n [] other_small tt)

number-is : (word : List ℕ) (finding : ℕ → Finding) (n : ℕ) → n < 2 ^ 64 → number_told word finding (word ++ decimal n) ≡ Some (finding n)
number-is word finding n small = search (rules, one, number_behind-word)

-- each finding is told by its words
finding-is : (k : ℕ) (f : Finding) → k < 2 ^ 64 → FitsFinding f → finding_told (words_at k) (text_of_finding k f) ≡ Some f
unfolding text_of_finding text_of_pair words_at
finding-is k (PersistFail byte) here fits = crash-is k PersistFail byte here fits
finding-is k (OrderedFail byte after crash) here fits =
    let last = codes " crash=" ++ decimal crash in let tells = λ (x y : ℕ) (rest : List ℕ). number_told (codes " crash=") (λ n. OrderedFail x y n) rest in
    ap (pair_told tells) (append_assoc (codes " byte=" ++ address byte ++ codes " after=" ++ address after) (codes " crash=") (decimal crash)
    ∙ append_assoc (codes " byte=" ++ address byte ++ codes " after=") (address after) last ∙ append_assoc (codes " byte=" ++ address byte) (codes " after=") (address after ++ last)
    ∙ append_assoc (codes " byte=") (address byte) (codes " after=" ++ (address after ++ last)))
    ∙ pair-is tells byte after last fits.0 fits.1 refl ∙ number-is (codes " crash=") (λ n. OrderedFail byte after n) crash fits.2
finding-is k (OrderedSameLine byte after) here fits =
    let tells = λ (x y : ℕ) (rest : List ℕ). at_last (OrderedSameLine x y) rest in
    ap (pair_told tells) (two (codes " byte=") (address byte) (codes " after=") (address after)) ∙ pair-is tells byte after [] fits.0 fits.1 tt
finding-is k (FlushDoubled line lines) here fits = lines-is FlushDoubled line lines fits.0 fits.1
finding-is k (FlushNeedless line lines) here fits = lines-is FlushNeedless line lines fits.0 fits.1
finding-is k (NoBackup byte) here fits = byte-is NoBackup byte fits
finding-is k (DupLog byte) here fits = byte-is DupLog byte fits
finding-is k (CheckFail byte) here fits = crash-is k CheckFail byte here fits
finding-is k (TxStillOpen depth) here fits = number-is (codes " depth=") TxStillOpen depth fits
finding-is k (Unclosed start) here fits = number-is (codes " start=") Unclosed start fits
finding-is k _ here fits = refl

pub begins : (k : ℕ) (f : Finding) → BeginsWithNoDigit (text_of_finding k f)
unfolding text_of_finding
begins k f = search rules

row-is : (row : Row) → FitsRow row → row_told (text_without_end row) ≡ Some row
unfolding row_told
row-is row fits = grind (arith, common_steps, number_in_front-decimal, begins, finding-is)

-- ---- text lines

counts_line : Totals → List ℕ
counts_line t = codes " pass=" ++ decimal t.pass ++ codes " fail=" ++ decimal t.fail ++ codes " warn=" ++ decimal t.warn ++ codes " empty=" ++ decimal t.empty

named : Checked → List ℕ
named s = codes "section " ++ decimal s.section.name.run ++ codes "." ++ decimal s.section.name.number ++ codes " events=" ++ decimal (length s.section.events)

header_line : Checked → List ℕ
header_line s = named s ++ counts_line (totals_of (s ∷ []))

total_line : Totals → List ℕ
total_line t = codes "total sections=" ++ decimal t.sections ++ counts_line t

abbrev section_lines : Checked → List (List ℕ)
section_lines s = header_line s ∷ map text_without_end (rows_in s)

abbrev report_lines : List Checked → List (List ℕ)
report_lines sections = flat_map section_lines sections ++ total_line (totals_of sections) ∷ []

section-text : (s : Checked) → text_of_section s ≡ text_of_lines (section_lines s)
unfolding text_of_section text_of_header text_of_counts header_line named counts_line
section-text s = grind (arith, common_steps, append_assoc, row_lines)

sections-text : (sections : List Checked) → flat_map text_of_section sections ≡ text_of_lines (flat_map section_lines sections)
sections-text [] = refl
sections-text (s ∷ sections) = grind (arith, common_steps, section-text, lines-append, sections-text sections)

report-text : (sections : List Checked) → report_of sections ≡ text_of_lines (report_lines sections)
unfolding text_of_totals text_of_counts total_line counts_line
report-text sections = grind (arith, common_steps, sections-text, lines-append)

-- no line end stands in them
counts-one : (t : Totals) → OneLine (counts_line t)
unfolding counts_line
counts-one t = grind (arith, common_steps, one-append, decimal-one)

header-one : (s : Checked) → OneLine (header_line s)
unfolding header_line named
header-one s = grind (arith, common_steps, one-append, decimal-one, counts-one)

total-one : (t : Totals) → OneLine (total_line t)
unfolding total_line
total-one t = grind (arith, common_steps, one-append, decimal-one, counts-one)

sections-one : (sections : List Checked) → AllByRecursion OneLine (flat_map section_lines sections)
sections-one [] = tt
sections-one (s ∷ sections) = each-append (section_lines s) (flat_map section_lines sections) (header-one s, rows-one (rows_in s)) (sections-one sections)

report-one : (sections : List Checked) → AllByRecursion OneLine (report_lines sections)
report-one sections = each-append (flat_map section_lines sections) (total_line (totals_of sections) ∷ []) (sections-one sections) (total-one (totals_of sections), tt)

-- ---- sections

header-is : (s : Checked) → FitsSection s → header_told (header_line s) ≡ Some (record { name = s.section.name; events = length s.section.events; rows = [] })
unfolding header_told header_line named counts_line
header-is s fits =
    let t = totals_of (s ∷ []) in let name = s.section.name in let e = decimal (length s.section.events) in let third = e ++ counts_line t in
    let second = decimal name.number ++ (codes " events=" ++ third) in ap header_told
    (append_assoc (codes "section " ++ decimal name.run ++ codes "." ++ decimal name.number ++ codes " events=") e (counts_line t)
    ∙ append_assoc (codes "section " ++ decimal name.run ++ codes "." ++ decimal name.number) (codes " events=") third
    ∙ append_assoc (codes "section " ++ decimal name.run ++ codes ".") (decimal name.number) (codes " events=" ++ third)
    ∙ append_assoc (codes "section " ++ decimal name.run) (codes ".") second ∙ append_assoc (codes "section ") (decimal name.run) (codes "." ++ second))
    ∙ ap (told_by (λ run rest. told_by (λ number more. told_by (told run number) (number_behind (codes " events=") more)) (number_behind (codes ".") rest)))
    (number_behind-word (codes "section ") name.run (codes "." ++ second) fits.run refl)
    ∙ ap (told_by (λ number more. told_by (told name.run number) (number_behind (codes " events=") more))) (number_behind-word (codes ".") name.number (codes " events=" ++ third) fits.number refl)
    ∙ ap (told_by (told name.run name.number)) (number_behind-word (codes " events=") (length s.section.events) (counts_line t) fits.events refl)
  where
    told : ℕ → ℕ → ℕ → List ℕ → Option Told
    told run number events rest = Some (record { name = record { run = run; number = number }; events = events; rows = [] })

header-no_row : (s : Checked) → row_told (header_line s) ≡ None
unfolding row_told number_in_front numeral_of is_numeral header_line named
header-no_row s = refl

total-no_row : (t : Totals) → row_told (total_line t) ≡ None
unfolding row_told number_in_front numeral_of is_numeral total_line
total-no_row t = refl

total-no_header : (t : Totals) → header_told (total_line t) ≡ None
unfolding header_told number_behind total_line
total-no_header t = refl

-- behind some rows the others are told alike, and none of the rows is a header
rows-are : (rows : List Row) (lines : List (List ℕ)) → AllByRecursion FitsRow rows → rows_told lines ≡ [] →
    (rows_told (map text_without_end rows ++ lines) ≡ rows) × (sections_in (map text_without_end rows ++ lines) ≡ sections_in lines)
unfolding rows_told sections_in
rows-are [] lines fit none = (none, refl)
rows-are (row ∷ rows) lines fit none = grind (arith, common_steps, row-is, rows-are rows lines fit.1 none)

-- rows, and then a text line that is none
pub rows-front : (rows : List Row) (first : List ℕ) (more : List (List ℕ)) → AllByRecursion FitsRow rows → row_told first ≡ None → rows_told (map text_without_end rows ++ first ∷ more) ≡ rows
unfolding rows_told
rows-front rows first more fit none = (rows-are rows (first ∷ more) fit (ap (λ o. row_before o (rows_told more)) none)).0

-- no row stands before the next header or the sums
no_row : (sections : List Checked) (t : Totals) → rows_told (flat_map section_lines sections ++ total_line t ∷ []) ≡ []
unfolding rows_told
no_row [] t = ap (λ o. row_before o []) (total-no_row t)
no_row (s ∷ sections) t = ap (λ o. row_before o (rows_told ((map text_without_end (rows_in s) ++ flat_map section_lines sections) ++ total_line t ∷ []))) (header-no_row s)

sections-are : (sections : List Checked) (t : Totals) → AllByRecursion FitsSection sections → sections_in (flat_map section_lines sections ++ total_line t ∷ []) ≡ map shown sections
unfolding sections_in rows_told
sections-are [] t fit = grind (arith, common_steps, total-no_row, total-no_header)
sections-are (s ∷ sections) t fit = grind (arith, common_steps, append_assoc, rows-are, recursion_from_All, no_row, header-no_row, header-is, sections-are sections t fit.1)

pub reports_tell_sections : ReportsTellSections
unfolding sections_told
reports_tell_sections sections fit = grind (arith, common_steps, report-text, lines_of-lines, report-one, sections-are, recursion_from_All)

-- ---- sums

counts-are : (t : Totals) → FitsTotals t → counts_told t.sections (counts_line t) ≡ Some t
unfolding counts_told counts_line
counts-are t fits =
    let last = decimal t.empty ++ [] in let fourth = decimal t.warn ++ (codes " empty=" ++ last) in let third = decimal t.fail ++ (codes " warn=" ++ fourth) in ap (counts_told t.sections)
    (ap (λ digits. codes " pass=" ++ decimal t.pass ++ codes " fail=" ++ decimal t.fail ++ codes " warn=" ++ decimal t.warn ++ codes " empty=" ++ digits) (sym (append-nil (decimal t.empty)))
    ∙ append_assoc (codes " pass=" ++ decimal t.pass ++ codes " fail=" ++ decimal t.fail ++ codes " warn=" ++ decimal t.warn) (codes " empty=") last
    ∙ append_assoc (codes " pass=" ++ decimal t.pass ++ codes " fail=" ++ decimal t.fail ++ codes " warn=") (decimal t.warn) (codes " empty=" ++ last)
    ∙ append_assoc (codes " pass=" ++ decimal t.pass ++ codes " fail=" ++ decimal t.fail) (codes " warn=") fourth
    ∙ append_assoc (codes " pass=" ++ decimal t.pass ++ codes " fail=") (decimal t.fail) (codes " warn=" ++ fourth) ∙ append_assoc (codes " pass=" ++ decimal t.pass) (codes " fail=") third
    ∙ append_assoc (codes " pass=") (decimal t.pass) (codes " fail=" ++ third))
    ∙ ap (told_by (λ pass rest. told_by (fails pass) (number_behind (codes " fail=") rest))) (number_behind-word (codes " pass=") t.pass (codes " fail=" ++ third) fits.pass refl)
    ∙ ap (told_by (fails t.pass)) (number_behind-word (codes " fail=") t.fail (codes " warn=" ++ fourth) fits.fail refl)
    ∙ ap (told_by (warns t.pass t.fail)) (number_behind-word (codes " warn=") t.warn (codes " empty=" ++ last) fits.warn refl)
    ∙ ap (told_by (empties t.pass t.fail t.warn)) (number_behind-word (codes " empty=") t.empty [] fits.empty tt)
  where
    empties : ℕ → ℕ → ℕ → ℕ → List ℕ → Option Totals
    empties pass fail warn empty rest = at_last (record { sections = t.sections; pass = pass; fail = fail; warn = warn; empty = empty }) rest

    warns : ℕ → ℕ → ℕ → List ℕ → Option Totals
    warns pass fail warn rest = told_by (empties pass fail warn) (number_behind (codes " empty=") rest)

    fails : ℕ → ℕ → List ℕ → Option Totals
    fails pass fail rest = told_by (warns pass fail) (number_behind (codes " warn=") rest)

sums-are : (t : Totals) → FitsTotals t → sums_told (total_line t) ≡ Some t
unfolding sums_told total_line counts_line
sums-are t fits =
    ap sums_told (append_assoc (codes "total sections=") (decimal t.sections) (counts_line t))
    ∙ ap (told_by counts_told) (number_behind-word (codes "total sections=") t.sections (counts_line t) fits.sections refl) ∙ counts-are t fits

last-sums : (lines : List (List ℕ)) (line : List ℕ) → last_sums (lines ++ line ∷ []) ≡ sums_told line
last-sums [] line = refl
last-sums (one ∷ lines) line = grind (arith, common_steps, last-sums lines line)

pub reports_tell_totals : ReportsTellTotals
unfolding totals_told
reports_tell_totals sections fits = grind (arith, common_steps, report-text, lines_of-lines, report-one, last-sums, sums-are)
