-- What is said of the ledgers of equal sets, and of one text.
use Rattle.std.specs.{Prelude.{◌≡◌, ◌^◌, ◌<◌, ℕ, List, length, map, All}, List.{list_any}}
use Rattle.pmf_event.specs.{declared.profile.Profile.{Profile}, Section.{Trace}}
use Rattle.pmf_verdict.specs.{declared.outcome.Outcome.TheVariants.{Fail}, Outcome.{is_same, outcome_of}, Checked.{Checked, rows_in}}
use Rattle.pmf_ledger.specs.{Gathered.{IsLedgerOf}, Gathering.{HaveSameMembers}, LedgerText.{IsSpelled, text_of_block, text_of_ledger}, LedgerValue.{LedgerValue}, declared.loading.LedgerFault.{LedgerFault}, Loading.{IsRefusedWith, LoadsAs}, Names.{Rises}, RawText.{IsRawText, RawBlock, raw_block, tells_fail}, Report.{report_of}, ReportTold.{FitsRow}}

-- sets with the same members have one ledger by a profile, one report and one ledger text
abbrev pub EqualSetsHaveOneLedger : Type 0
EqualSetsHaveOneLedger = (profile : Profile) (xs ys : List Trace) (a b : LedgerValue) → IsLedgerOf profile xs a → IsLedgerOf profile ys b → HaveSameMembers xs ys →
    (a ≡ b) × (report_of a.sections ≡ report_of b.sections) × (text_of_ledger a ≡ text_of_ledger b)

-- a text loads as one ledger at most
abbrev pub TextsLoadAsOneLedger : Type 0
TextsLoadAsOneLedger = (text : List ℕ) (a b : LedgerValue) → LoadsAs text a → LoadsAs text b → a ≡ b

-- a text that loads is not refused
abbrev pub WhatLoadsIsNotRefused : Type 0
WhatLoadsIsNotRefused = (text : List ℕ) (ledger : LedgerValue) (found : LedgerFault) → LoadsAs text ledger → IsRefusedWith text found → ⊥

-- a text has its blocks, as they stand, in one way
abbrev pub TextsHaveTheirBlocksInOneWay : Type 0
TextsHaveTheirBlocksInOneWay = (text : List ℕ) (p q : Profile) (xs ys : List RawBlock) → IsRawText p xs text → IsRawText q ys text → (p ≡ q) × (xs ≡ ys)

-- a section can be spelled, and its rows counted
abbrev pub CanBeSpelled : Checked → Type 0
CanBeSpelled s = IsSpelled s × (length (rows_in s) < 2 ^ 64)

-- the text of a ledger has the blocks of its sections
abbrev pub LedgerTextsHaveTheirBlocks : Type 0
LedgerTextsHaveTheirBlocks = (ledger : LedgerValue) → Rises ledger.sections → All CanBeSpelled ledger.sections → IsRawText ledger.profile (map raw_block ledger.sections) (text_of_ledger ledger)

-- a block of a section tells a fail where one of the section's rows counts as one, and nowhere else
abbrev pub BlocksTellTheirFails : Type 0
BlocksTellTheirFails = (s : Checked) → CanBeSpelled s → All FitsRow (rows_in s) → tells_fail (text_of_block s) ≡ list_any (λ row. is_same Fail (outcome_of row.finding)) (rows_in s)
