-- What a ledger holds, and the ledger of a set of sections. A set is a list in which only membership counts. Defined here.
use Rattle.std.specs.Prelude.{◌≡◌, ◌≢◌, ◌⊎◌, ◌↔◌, List, ◌∷◌, ◌++◌, map, Contains, All}
use Rattle.pmf_event.specs.{declared.name.Name.{Name}, declared.profile.Profile.{Profile}, declared.profile.Profile.TheVariants.{Two}, Section.{Trace}}
use Rattle.pmf_verdict.specs.Checked.{Checked, checked_by}
use Rattle.pmf_ledger.specs.{LedgerValue.{LedgerValue}, Names.{IsBefore, Rises}}

-- the section is among those of the ledger
-- example: profile One with section 0.0 holds that section
abbrev pub Holds : LedgerValue → Trace → Type 0
Holds ledger s = Contains ledger.sections (checked_by ledger.profile s)

-- the section's name is held with other events
-- example: a ledger with section 0.0 of the events of E does, of a section 0.0 with those of T
abbrev pub HoldsOther : LedgerValue → Trace → Type 0
HoldsOther ledger s = (t : Trace) × Holds ledger t × (t.name ≡ s.name) × (t ≢ s)

-- the ledger of a set by a profile: each of its sections once, checked by the profile, in the order of their names
-- example: the ledger with section 0.0 is that of the set with 0.0, also if the set has it twice
pub record IsLedgerOf (profile : Profile) (set : List Trace) (ledger : LedgerValue) : Type 0 where
  pub profile_is : ledger.profile ≡ profile
  pub checked : All (λ (c : Checked). c.profile ≡ profile) ledger.sections
  pub rises : Rises ledger.sections
  pub same : (s : Trace) → Holds ledger s ↔ Contains set s

-- the new ledger holds what the old one held and the section, and nothing else
pub record Gains (old : LedgerValue) (section : Trace) (new : LedgerValue) : Type 0 where
  pub profile_stays : new.profile ≡ old.profile
  pub holds : (s : Trace) → Holds new s ↔ (Holds old s ⊎ (s ≡ section))

-- the new ledger holds what either of the two held, and nothing else
pub record Unites (a b new : LedgerValue) : Type 0 where
  pub profile_stays : new.profile ≡ a.profile
  pub holds : (s : Trace) → Holds new s ↔ (Holds a s ⊎ Holds b s)

-- of whatever set the old ledger is, the new one is the ledger of that set with the section
-- example: a ledger of 0.0 becomes with 0.1 the ledger of both, and stays with 0.0 once more
abbrev pub Gathers : LedgerValue → Trace → LedgerValue → Type 0
Gathers old section new = (set : List Trace) → IsLedgerOf old.profile set old → IsLedgerOf old.profile (section ∷ set) new

-- of whatever sets the two are, by one profile, the new one is the ledger of their union
-- example: those of 0.0 and 0.1, and of 0.1 and 1.0, become that of the three
abbrev pub GathersBoth : LedgerValue → LedgerValue → LedgerValue → Type 0
GathersBoth a b new = (xs ys : List Trace) → IsLedgerOf a.profile xs a → IsLedgerOf a.profile ys b → IsLedgerOf a.profile (xs ++ ys) new

-- the name is held by both, with other events
-- example: two ledgers whose sections 0.0 differ do at 0.0
abbrev pub ClashesAt : LedgerValue → LedgerValue → Name → Type 0
ClashesAt a b name = (s : Trace) × (t : Trace) × Holds a s × Holds b t × (s.name ≡ name) × (t.name ≡ name) × (s ≢ t)

-- it is the least such name
abbrev pub IsLeastClash : LedgerValue → LedgerValue → Name → Type 0
IsLeastClash a b name = ClashesAt a b name × ((other : Name) → ClashesAt a b other → IsBefore other name → ⊥)

-- the section, checked by profile Two
abbrev pub upgraded : Checked → Checked
upgraded c = checked_by Two c.section

-- the new ledger is that of the same sections by profile Two
pub record IsUpgradeOf (old new : LedgerValue) : Type 0 where
  pub profile_is : new.profile ≡ Two
  pub sections_are : new.sections ≡ map upgraded old.sections
  pub gathers : (set : List Trace) → IsLedgerOf old.profile set old → IsLedgerOf Two set new
  pub unchanged : old.profile ≡ Two → new ≡ old
