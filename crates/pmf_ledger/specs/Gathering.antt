-- Gatherings: how a ledger comes to be, and what is said of all of them. Defined here.
use Rattle.std.specs.Prelude.{◌≡◌, ◌≢◌, ◌⊎◌, ◌↔◌, List, [], ◌∷◌, ◌++◌, Contains}
use Rattle.pmf_event.specs.{declared.name.Name.{Name}, declared.profile.Profile.{Profile}, Section.{Trace}}
use Rattle.pmf_verdict.specs.Checked.{Checked}
use Rattle.pmf_ledger.specs.{Gathered.{ClashesAt, Gathers, GathersBoth, HoldsOther, IsLedgerOf}, LedgerValue.{LedgerValue}}

-- a set of sections agrees: equal names have equal events
-- example: one with two different sections 0.0 does not
abbrev pub Agrees : List Trace → Type 0
Agrees set = (s t : Trace) → Contains set s → Contains set t → s.name ≡ t.name → s ≡ t

-- the two sets have the same members
abbrev pub HaveSameMembers : List Trace → List Trace → Type 0
HaveSameMembers xs ys = (s : Trace) → Contains xs s ↔ Contains ys s

-- a gathering: begun by a profile, one with a verdict more, or two joined. A repeat is taken like any other
-- example: `Joined (Begun One) (WithVerdict (Begun One) c)`
pub data Gathering : Type 0 where
  Begun : Profile → Gathering
  WithVerdict : Gathering → Checked → Gathering
  Joined : Gathering → Gathering → Gathering

-- the sections that were gathered, repeats and all
-- example: of `WithVerdict (Begun One) c` it is the section of c
unfoldable pub set_of : Gathering → List Trace
set_of (Begun profile) = []
set_of (WithVerdict gathering verdict) = verdict.section ∷ set_of gathering
set_of (Joined first second) = set_of first ++ set_of second

-- each profile that occurs is this one
-- example: `WithVerdict (Begun One) c` is by One if c is
unfoldable pub IsBy : Profile → Gathering → Type 0
IsBy profile (Begun own) = own ≡ profile
IsBy profile (WithVerdict gathering verdict) = IsBy profile gathering × (verdict.profile ≡ profile)
IsBy profile (Joined first second) = IsBy profile first × IsBy profile second

-- why a ledger refuses a verdict, want of memory aside
-- example: a verdict by Two is refused by a ledger by One
abbrev pub RefusesVerdict : LedgerValue → Checked → Type 0
RefusesVerdict ledger verdict = (verdict.profile ≢ ledger.profile) ⊎ HoldsOther ledger verdict.section

-- why two ledgers are not joined, want of memory aside
-- example: a ledger by One and one by Two are not joined
abbrev pub RefusesJoin : LedgerValue → LedgerValue → Type 0
RefusesJoin a b = (a.profile ≢ b.profile) ⊎ ((name : Name) × ClashesAt a b name)

-- the gathering can give this ledger, each step being what `new`, `take` and `join` say of an Ok
-- example: if c is by One, `Joined (Begun One) (WithVerdict (Begun One) c)` gives the ledger by One with the section of c alone
unfoldable pub Gives : Gathering → LedgerValue → Type 0
Gives (Begun profile) ledger = ledger ≡ record { profile = profile; sections = [] }
Gives (WithVerdict gathering verdict) ledger =
    (old : LedgerValue) × Gives gathering old × (RefusesVerdict old verdict → ⊥) × Gathers old verdict.section ledger
Gives (Joined first second) ledger =
    (a : LedgerValue) × (b : LedgerValue) × Gives first a × Gives second b × (RefusesJoin a b → ⊥) × GathersBoth a b ledger

-- some step of it is refused, for another cause than memory
unfoldable pub IsRefused : Gathering → Type 0
IsRefused (Begun profile) = ⊥
IsRefused (WithVerdict gathering verdict) = IsRefused gathering ⊎ ((old : LedgerValue) × Gives gathering old × RefusesVerdict old verdict)
IsRefused (Joined first second) =
    (IsRefused first ⊎ IsRefused second) ⊎ ((a : LedgerValue) × (b : LedgerValue) × Gives first a × Gives second b × RefusesJoin a b)

-- what every gathering gives is the ledger of its set, and then the set agrees and there is one profile
-- example: that ledger is the one of the set with the section of c
abbrev pub GivesItsLedger : Type 0
GivesItsLedger = (gathering : Gathering) (ledger : LedgerValue) → Gives gathering ledger →
    IsLedgerOf ledger.profile (set_of gathering) ledger × Agrees (set_of gathering) × IsBy ledger.profile gathering

-- none is refused whose set agrees and that has one profile
abbrev pub RefusesForCause : Type 0
RefusesForCause = (gathering : Gathering) (profile : Profile) → Agrees (set_of gathering) → IsBy profile gathering → IsRefused gathering → ⊥

-- and one whose set agrees and that has one profile gives a ledger
abbrev pub GivesWhereItMay : Type 0
GivesWhereItMay = (gathering : Gathering) (profile : Profile) → Agrees (set_of gathering) → IsBy profile gathering → (ledger : LedgerValue) × Gives gathering ledger

-- each gathering gives a ledger or is refused, and none does both
abbrev pub GivesOrIsRefused : Type 0
GivesOrIsRefused = (gathering : Gathering) →
    (((ledger : LedgerValue) × Gives gathering ledger) ⊎ IsRefused gathering) × ((ledger : LedgerValue) → Gives gathering ledger → IsRefused gathering → ⊥)

-- two gatherings are the same in all: they give one ledger, what the one gives the other gives, and the one is refused
-- exactly where the other is
pub record AreAlike (g h : Gathering) : Type 0 where
  pub same : (a b : LedgerValue) → Gives g a → Gives h b → a ≡ b
  pub gives : (a : LedgerValue) → Gives g a ↔ Gives h a
  pub refused : IsRefused g ↔ IsRefused h

-- joining commutes
abbrev pub JoiningCommutes : Type 0
JoiningCommutes = (g h : Gathering) → AreAlike (Joined g h) (Joined h g)

-- joining associates
abbrev pub JoiningAssociates : Type 0
JoiningAssociates = (g h k : Gathering) → AreAlike (Joined (Joined g h) k) (Joined g (Joined h k))

-- joined with itself a gathering is what it was
abbrev pub JoiningRepeats : Type 0
JoiningRepeats = (g : Gathering) → AreAlike (Joined g g) g

-- only the set counts: gatherings by one profile, of sets with the same members, are alike
abbrev pub OnlyTheSetCounts : Type 0
OnlyTheSetCounts = (g h : Gathering) (profile : Profile) → IsBy profile g → IsBy profile h → HaveSameMembers (set_of g) (set_of h) → AreAlike g h
