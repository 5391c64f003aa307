-- What is written of ledger texts of any length that are merged as they are read, block by block. Defined here.
use Rattle.std.specs.{Prelude.{◌≡◌, ◌≢◌, ◌⊎◌, ℕ, ◌<◌, List, [], ◌∷◌, length, slice_index_or, flat_map, Contains, All, Option, None, Some}, Io.KnownBytes.{Appends, Consumes}}
use Rattle.pmf_event.specs.{declared.name.Name.{Name}, declared.profile.Profile.{Profile}, declared.profile.Profile.TheVariants.{One}, Section.{Trace}}
use Rattle.pmf_ledger.specs.{declared.form.Form.{Form}, declared.totals.Totals.{Totals}, Gathered.{IsLedgerOf}, LedgerValue.{LedgerValue}, Loading.{fault_through, reading_through}, Names.{IsBefore}, Report.{totals_of}, Telling.{text_told}}
use Rattle.pmf_merge.specs.{Feeding.{IsTextFault}, Heads.{IsUpTo}, declared.fault.MergeFault.{MergeFault}}
use Rattle.pmf_merge.specs.declared.fault.MergeFault.TheVariants as fault

-- the text, of any length, is that of a ledger by the profile
abbrev pub IsTextBy : Profile → List ℕ → Type 0
IsTextBy profile text = (fault_through text ≡ None) × ((reading_through text).profile ≡ profile)

-- the sections of its blocks
abbrev pub blocks_in : List ℕ → List Trace
blocks_in text = (reading_through text).blocks

-- the ledger is that of the sections of all texts, which are by one profile; of no text it is by profile One
pub record IsMergeOf (texts : List (List ℕ)) (ledger : LedgerValue) : Type 0 where
  pub by_one : All (IsTextBy ledger.profile) texts
  pub gathered : IsLedgerOf ledger.profile (flat_map blocks_in texts) ledger
  pub of_none : texts ≡ [] → ledger.profile ≡ One

-- this text is written of the texts' ledger in this form, and these are its sums
pub record IsMergedText (form : Form) (texts : List (List ℕ)) (totals : Totals) (text : List ℕ) : Type 0 where
  pub ledger : LedgerValue
  pub merges : IsMergeOf texts ledger
  pub text_is : text ≡ text_told form ledger
  pub totals_are : totals ≡ totals_of ledger.sections

-- these bytes are all that was left, where that is known
abbrev pub IsAllOf : Option (List ℕ) → List ℕ → Type 0
IsAllOf None text = Unit {0}
IsAllOf (Some left) text = text ≡ left

-- each text is all that was left of its source
abbrev pub AreAllOf : List (Option (List ℕ)) → List (List ℕ) → Type 0
AreAllOf [] [] = Unit {0}
AreAllOf (start ∷ starts) (text ∷ texts) = IsAllOf start text × AreAllOf starts texts
AreAllOf [] (text ∷ texts) = ⊥
AreAllOf (start ∷ starts) [] = ⊥

-- all sources were read, and the text of their ledger was written
abbrev pub Merges : Form → List (Option (List ℕ)) → Option (List ℕ) → Option (List ℕ) → Totals → Type 0
Merges form starts held holds totals =
    (texts : List (List ℕ)) × AreAllOf starts texts × ((text : List ℕ) × IsMergedText form texts totals text × Appends held holds text)

-- these bytes were read of a source that had this left
abbrev pub AreRead : Option (List ℕ) → List ℕ → Type 0
AreRead start bytes = (left : Option (List ℕ)) × Consumes start left bytes

-- they are a whole text, or have a section that doesn't come before this name
abbrev pub Reaches : Option (List ℕ) → List ℕ → Name → Type 0
Reaches start bytes name = (IsAllOf start bytes × (fault_through bytes ≡ None)) ⊎ ((s : Trace) × Contains (blocks_in bytes) s × IsUpTo name s.name)

-- so far was each source read
abbrev pub AreReadUpTo : Name → List (Option (List ℕ)) → List (List ℕ) → Type 0
AreReadUpTo name [] [] = Unit {0}
AreReadUpTo name (start ∷ starts) (bytes ∷ read) = AreRead start bytes × Reaches start bytes name × AreReadUpTo name starts read
AreReadUpTo name [] (bytes ∷ read) = ⊥
AreReadUpTo name (start ∷ starts) [] = ⊥

-- the sections of one name are the same where it comes before this one
abbrev pub AgreeBefore : Name → List Trace → Type 0
AgreeBefore name sections = (s t : Trace) → Contains sections s → Contains sections t → s.name ≡ t.name → IsBefore s.name name → s ≡ t

-- the sources were read up to this name: two sections that were read have it and differ, and those before it agree
pub record IsConflict (starts : List (Option (List ℕ))) (name : Name) : Type 0 where
  pub read : List (List ℕ)
  pub are_read : AreReadUpTo name starts read
  pub s : Trace
  pub t : Trace
  pub has_s : Contains (flat_map blocks_in read) s
  pub has_t : Contains (flat_map blocks_in read) t
  pub s_named : s.name ≡ name
  pub t_named : t.name ≡ name
  pub differ : s ≢ t
  pub least : AgreeBefore name (flat_map blocks_in read)

-- what was read of the source tells this profile: a section of it, or a whole text
abbrev pub HasToldProfile : Option (List ℕ) → Profile → Type 0
HasToldProfile start profile =
    (bytes : List ℕ) × AreRead start bytes × ((reading_through bytes).profile ≡ profile) × ((fault_through bytes ≡ None) ⊎ ((s : Trace) × Contains (blocks_in bytes) s))

-- the text of this index is by another profile than the first
abbrev pub IsMismatch : List (Option (List ℕ)) → ℕ → Type 0
IsMismatch starts index =
    (first : Profile) × (other : Profile) × HasToldProfile (slice_index_or starts 0 None) first × HasToldProfile (slice_index_or starts index None) other × (first ≢ other)

-- the texts are not merged for this reason
abbrev pub IsMergeFaultOf : List (Option (List ℕ)) → MergeFault → Type 0
IsMergeFaultOf starts (fault.Read index) = index < length starts
IsMergeFaultOf starts (fault.Text index found) = (index < length starts) × IsTextFault (slice_index_or starts index None) found
IsMergeFaultOf starts (fault.ProfileMismatch index) = (index < length starts) × IsMismatch starts index
IsMergeFaultOf starts (fault.Conflict name) = IsConflict starts name
IsMergeFaultOf starts (fault.Write written) = Unit {0}
IsMergeFaultOf starts fault.OutOfMemory = Unit {0}
