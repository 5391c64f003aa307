-- How a section stands to a ledger, and what became of a verdict. Defined here.
use Rattle.std.specs.Prelude.{◌≡◌, Result, Ok, Err}
use Rattle.pmf_event.specs.Section.{Trace}
use Rattle.pmf_ledger.specs.{declared.taking.Standing.{Standing}, declared.taking.TakeFault.{TakeFault}, declared.taking.Taken.{Taken}, Gathered.{Holds, HoldsOther}, LedgerValue.{LedgerValue}, Places.{IsPlaceOf, LacksName}}
use Rattle.pmf_verdict.specs.Checked.{Checked}
use Rattle.pmf_ledger.specs.declared.taking.Standing.TheVariants as standing

-- the section is held, or its name is held with other events, or its name is not held and belongs at this place
abbrev pub IsStandingOf : LedgerValue → Trace → Standing → Type 0
IsStandingOf ledger s standing.Held = Holds ledger s
IsStandingOf ledger s standing.Otherwise = HoldsOther ledger s
IsStandingOf ledger s (standing.Absent place) = IsPlaceOf ledger.sections s.name place × LacksName ledger.sections s.name

-- the verdict was refused with this fault
abbrev pub IsRefusedAs : Result Taken (TakeFault × Checked) → TakeFault → Type 0
IsRefusedAs (Ok taken) fault = ⊥
IsRefusedAs (Err refused) fault = refused.0 ≡ fault
