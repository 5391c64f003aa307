-- A ledger in the making. Defined here.
use Rattle.std.specs.Prelude.{◌∷◌, [], ◌++◌, List}
use Rattle.pmf_event.specs.{declared.profile.Profile.{Profile}, Section.{Trace}}
use Rattle.pmf_ledger.specs.{declared.pile.Pile.{Pile}, LedgerValue.{LedgerValue}, Together.{AreLedgersOf}}

-- the ledgers of a pile
abbrev pub ledgers_of : Pile → List LedgerValue
ledgers_of pile = pile.full.items ++ pile.last ∷ []

-- the pile is of the set
abbrev pub IsPileOf : Profile → List Trace → Pile → Type 0
IsPileOf profile set pile = AreLedgersOf profile set (ledgers_of pile)
