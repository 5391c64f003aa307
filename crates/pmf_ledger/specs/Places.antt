-- Where a name stands among the sections of a ledger. Defined here.
use Rattle.std.specs.Prelude.{◌≡◌, ℕ, ◌<◌, ◌≤◌, List, length, Contains, slice_index_or}
use Rattle.pmf_event.specs.declared.name.Name.{Name}
use Rattle.pmf_verdict.specs.Checked.{Checked}
use Rattle.pmf_ledger.specs.Names.{IsBefore}

-- exactly the first k sections have names before this one
pub record IsPlaceOf (sections : List Checked) (name : Name) (k : ℕ) : Type 0 where
  pub within : k ≤ length sections
  pub before : (i : ℕ) (d : Checked) → i < k → IsBefore (slice_index_or sections i d).section.name name
  pub from : (i : ℕ) (d : Checked) → k ≤ i → i < length sections → IsBefore (slice_index_or sections i d).section.name name → ⊥

-- the section of index k has this name
pub record StandsAt (sections : List Checked) (name : Name) (k : ℕ) : Type 0 where
  pub inside : k < length sections
  pub named : (d : Checked) → (slice_index_or sections k d).section.name ≡ name

-- no section has this name
abbrev pub LacksName : List Checked → Name → Type 0
LacksName sections name = (c : Checked) → Contains sections c → c.section.name ≡ name → ⊥

-- some section has this name
abbrev pub HasName : List Checked → Name → Type 0
HasName sections name = (c : Checked) × Contains sections c × (c.section.name ≡ name)
