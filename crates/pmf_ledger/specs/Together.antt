-- Ledgers that are to become one. Defined here.
use Rattle.std.specs.Prelude.{◌≡◌, ◌↔◌, List, All, Contains}
use Rattle.pmf_event.specs.{declared.name.Name.{Name}, declared.profile.Profile.{Profile}, Section.{Trace}}
use Rattle.pmf_ledger.specs.{declared.taking.Standing.{Standing}, Gathered.{Holds, HoldsOther}, Gathering.{Agrees}, LedgerValue.{LedgerValue}, Names.{Rises}, Places.{LacksName}}
use Rattle.pmf_verdict.specs.Checked.{Checked}
use Rattle.pmf_ledger.specs.declared.taking.Standing.TheVariants as standing

-- its sections were checked by the profile, and their names rise
pub record IsBy (profile : Profile) (ledger : LedgerValue) : Type 0 where
  pub profile_is : ledger.profile ≡ profile
  pub checked : All (λ (c : Checked). c.profile ≡ profile) ledger.sections
  pub rises : Rises ledger.sections

-- one of the ledgers holds the section
abbrev pub SomeHolds : List LedgerValue → Trace → Type 0
SomeHolds ledgers s = (l : LedgerValue) × Contains ledgers l × Holds l s

-- one of the ledgers holds the section's name with other events
abbrev pub SomeHoldsOther : List LedgerValue → Trace → Type 0
SomeHoldsOther ledgers s = (l : LedgerValue) × Contains ledgers l × HoldsOther l s

-- together they are by the profile, and hold the sections of the set, which agrees, and nothing else
pub record AreLedgersOf (profile : Profile) (set : List Trace) (ledgers : List LedgerValue) : Type 0 where
  pub by : (l : LedgerValue) → Contains ledgers l → IsBy profile l
  pub agrees : Agrees set
  pub same : (s : Trace) → SomeHolds ledgers s ↔ Contains set s

-- none of the ledgers has a section of this name
abbrev pub AreWithout : List LedgerValue → Name → Type 0
AreWithout ledgers name = (l : LedgerValue) → Contains ledgers l → LacksName l.sections name

-- the section is held by one of the ledgers, or its name is held with other events, or none has its name
abbrev pub IsStandingIn : List LedgerValue → Trace → Standing → Type 0
IsStandingIn ledgers s standing.Held = SomeHolds ledgers s
IsStandingIn ledgers s standing.Otherwise = SomeHoldsOther ledgers s
IsStandingIn ledgers s (standing.Absent place) = AreWithout ledgers s.name
