-- What the totals of a set's ledger tell of its sections. Laws, which the crate's empty public functions prove.
use Rattle.std.specs.Prelude.{◌≡◌, List, Contains}
use Rattle.pmf_event.specs.{declared.profile.Profile.{Profile}, Section.{Trace}}
use Rattle.pmf_verdict.specs.{Checked.{Checked}, Kept.{IsKept, IsFilled}}
use Rattle.pmf_ledger.specs.{Gathered.{IsLedgerOf}, LedgerValue.{LedgerValue}, Report.{totals_of}, TrueRows.{HasTrueRows}}

-- all that each section of the set asserts holds
abbrev pub AllKept : List Trace → Type 0
AllKept set = (s : Trace) → Contains set s → IsKept s.events

-- each assertion of each section had something to check
abbrev pub AllFilled : List Trace → Type 0
AllFilled set = (s : Trace) → Contains set s → IsFilled s.events

-- where the ledger of a set counts no row as FAIL, all that its sections assert holds
abbrev pub NoFailIsKept : Type 0
NoFailIsKept = (profile : Profile) (set : List Trace) (ledger : LedgerValue) → IsLedgerOf profile set ledger → (totals_of ledger.sections).fail ≡ 0 → AllKept set

-- where it counts none as EMPTY, each of their assertions had something to check
abbrev pub NoEmptyIsFilled : Type 0
NoEmptyIsFilled = (profile : Profile) (set : List Trace) (ledger : LedgerValue) → IsLedgerOf profile set ledger → (totals_of ledger.sections).empty ≡ 0 → AllFilled set

-- the rows of every checked section are true
abbrev pub AllRowsAreTrue : Type 0
AllRowsAreTrue = (checked : Checked) → HasTrueRows checked
