-- What is said of ledgers that are merged as they stand. Defined here.
use Rattle.std.specs.{Prelude.{◌≡◌, ◌↔◌, ℕ, Bool, List, [], map, flat_map, Contains, All, Option, Some}, Io.KnownBytes.{Appends}}
use Rattle.pmf_event.specs.declared.profile.Profile.TheVariants.{One}
use Rattle.pmf_verdict.specs.Checked.{Checked}
use Rattle.pmf_ledger.specs.{Laws.{CanBeSpelled}, LedgerText.{text_of_ledger}, LedgerValue.{LedgerValue}, Names.{Rises}, RawText.{raw_block, text_on_trust}}
use Rattle.pmf_merge.specs.Trusting.{Trusts}

-- the ledger can be written: its sections can be spelled, and their names rise
pub record CanBeWritten (ledger : LedgerValue) : Type 0 where
  pub rises : Rises ledger.sections
  pub spelled : All CanBeSpelled ledger.sections

-- the sections of some ledgers
abbrev pub sections_in : List LedgerValue → List Checked
sections_in ledgers = flat_map (λ (l : LedgerValue). l.sections) ledgers

-- the ledger holds the sections of all of them, each once, in the order of their names; of none it is by profile One
pub record IsUnionOf (ledgers : List LedgerValue) (ledger : LedgerValue) : Type 0 where
  pub by_one : All (λ (l : LedgerValue). l.profile ≡ ledger.profile) ledgers
  pub rises : Rises ledger.sections
  pub same : (c : Checked) → Contains ledger.sections c ↔ Contains (sections_in ledgers) c
  pub of_none : ledgers ≡ [] → ledger.profile ≡ One

-- the texts of the ledgers, each all that is left of a source
abbrev pub sources_of : List LedgerValue → List (Option (List ℕ))
sources_of ledgers = map (λ (l : LedgerValue). Some (text_of_ledger l)) ledgers

-- of the texts of ledgers the text of their union is written, but for its first text line
abbrev pub TrustKeepsLedgers : Type 0
TrustKeepsLedgers =
    (ledgers : List LedgerValue) (ledger : LedgerValue) (held holds : Option (List ℕ)) (fails : Bool) → All CanBeWritten ledgers → IsUnionOf ledgers ledger → Trusts (sources_of ledgers) held holds fails →
    Appends held holds (text_on_trust ledger.profile (map raw_block ledger.sections))
