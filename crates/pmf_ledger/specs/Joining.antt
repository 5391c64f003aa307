-- How two ledgers stand to each other, and how their lists become one. Defined here.
use Rattle.std.specs.Prelude.{◌≡◌, ◌≢◌, ◌⊎◌, ◌↔◌, List, Contains, Result, Ok, Err, AllPairs}
use Rattle.pmf_event.specs.{declared.name.Name.{Name}, Section.{Trace}}
use Rattle.pmf_ledger.specs.{declared.joining.JoinFault.{JoinFault}, Gathered.{Holds}, LedgerValue.{LedgerValue}, Names.{ComesBefore, IsBefore, Rises}}
use Rattle.pmf_verdict.specs.Checked.{Checked}

-- the two ledgers were refused with this fault
abbrev pub AreRefusedAs : Result LedgerValue (JoinFault × LedgerValue × LedgerValue) → JoinFault → Type 0
AreRefusedAs (Ok joined) fault = ⊥
AreRefusedAs (Err refused) fault = refused.0 ≡ fault

-- where sections of the two ledgers have one name, they are one section
abbrev pub AgreeTogether : LedgerValue → LedgerValue → Type 0
AgreeTogether a b = (s t : Trace) → Holds a s → Holds b t → s.name ≡ t.name → s ≡ t

-- where sections of the two lists have one name, they are one section
abbrev pub AgreeInNames : List Checked → List Checked → Type 0
AgreeInNames xs ys = (x y : Checked) → Contains xs x → Contains ys y → x.section.name ≡ y.section.name → x.section ≡ y.section

-- the same, and they were checked by one profile
abbrev pub Agree : List Checked → List Checked → Type 0
Agree xs ys = (x y : Checked) → Contains xs x → Contains ys y → x.section.name ≡ y.section.name → x ≡ y

-- sections of the two lists have this name, and differ; those of names before it agree
pub record IsLeastDiffering (xs ys : List Checked) (name : Name) : Type 0 where
  pub first : Checked
  pub second : Checked
  pub of_first : Contains xs first
  pub of_second : Contains ys second
  pub first_named : first.section.name ≡ name
  pub second_named : second.section.name ≡ name
  pub differ : first.section ≢ second.section
  pub least : (x y : Checked) → Contains xs x → Contains ys y → x.section.name ≡ y.section.name → IsBefore x.section.name name → x.section ≡ y.section

-- of two lists some is left, and the rest is merged, from the last on
pub record IsMerging (xs ys left right merged : List Checked) : Type 0 where
  pub kept : (c : Checked) → (Contains xs c ⊎ Contains ys c) ↔ ((Contains left c ⊎ Contains right c) ⊎ Contains merged c)
  pub left_rises : Rises left
  pub right_rises : Rises right
  pub agree : Agree left right
  pub falls : AllPairs (λ (later : Checked) (earlier : Checked). ComesBefore earlier later) merged
  pub left_before : (c d : Checked) → Contains left c → Contains merged d → ComesBefore c d
  pub right_before : (c d : Checked) → Contains right c → Contains merged d → ComesBefore c d

-- the list has what either of the two has, in the order of the names
pub record IsMerged (xs ys merged : List Checked) : Type 0 where
  pub rises : Rises merged
  pub holds : (c : Checked) → Contains merged c ↔ (Contains xs c ⊎ Contains ys c)
