-- The next section of each text that is read, and what was told before them. Defined here.
use Rattle.std.specs.Prelude.{◌≡◌, ◌⊎◌, ◌↔◌, ℕ, ◌<◌, List, [], ◌∷◌, ◌++◌, length, map, slice_index_or, Contains, All, Option, None, Some, option_map}
use Rattle.pmf_event.specs.{declared.name.Name.{Name}, declared.profile.Profile.{Profile}, Section.{Trace}}
use Rattle.pmf_verdict.specs.Checked.{Checked, checked_by}
use Rattle.pmf_ledger.specs.{Loading.{Reading}, Names.{IsBefore, Rises}}
use Rattle.pmf_merge.specs.{Feeding.{IsFed, IsFedWhole}, declared.feed.Feed.{Feed}}

-- the names of the sections that wait
abbrev pub names_of : List (Option Checked) → List (Option Name)
names_of heads = map (option_map (λ (v : Checked). v.section.name)) heads

-- one name is the other, or comes before it
abbrev pub IsUpTo : Name → Name → Type 0
IsUpTo a b = (a ≡ b) ⊎ IsBefore a b

-- this is the last of the sections, if there is one
abbrev pub IsLast : List Checked → Option Checked → Type 0
IsLast out None = out ≡ []
IsLast out (Some last) = (before : List Checked) × (out ≡ before ++ last ∷ [])

-- the section of this index waits, and none that waits comes before it
abbrev pub IsLeast : List (Option Checked) → ℕ → Checked → Type 0
IsLeast heads index v =
    (slice_index_or heads index None ≡ Some v) × ((i : ℕ) (w : Checked) → slice_index_or heads i None ≡ Some w → IsUpTo v.section.name w.section.name)

-- the first n texts were read up to their heads, and what stands before these was told
pub record IsMerging (n : ℕ) (starts lefts : List (Option (List ℕ))) (feeds : List Feed) (heads : List (Option Checked)) (profile : Profile) (out : List Checked) : Type 0 where
  pub texts : ℕ → List ℕ
  pub readings : ℕ → Reading
  pub feeds_are : length feeds ≡ n
  pub heads_are : length heads ≡ n
  pub fed : (i : ℕ) (d : Feed) → i < n → IsFed (slice_index_or starts i None) (slice_index_or lefts i None) (slice_index_or feeds i d) (texts i) (readings i)
  pub by_one : (i : ℕ) → i < n → (readings i).profile ≡ profile
  pub over : (i : ℕ) → i < n → slice_index_or heads i None ≡ None → IsFedWhole (slice_index_or starts i None) (slice_index_or lefts i None) (texts i) (readings i)
  pub head : (i : ℕ) (v : Checked) → i < n → slice_index_or heads i None ≡ Some v → Contains (readings i).blocks v.section × (v.profile ≡ profile)
  pub told : (i : ℕ) (s : Trace) → i < n → Contains (readings i).blocks s → Contains out (checked_by profile s) ⊎ (slice_index_or heads i None ≡ Some (checked_by profile s))
  pub from : (c : Checked) → Contains out c → (i : ℕ) × (i < n) × Contains (readings i).blocks c.section
  pub after : (i : ℕ) (v c : Checked) → i < n → slice_index_or heads i None ≡ Some v → Contains out c → IsUpTo c.section.name v.section.name
  pub rises : Rises out
  pub checked : All (λ (c : Checked). c.profile ≡ profile) out

-- with this section more these are told, or it is told already
pub record HasTold (out : List Checked) (v : Checked) (new : List Checked) : Type 0 where
  pub members : (c : Checked) → Contains new c ↔ (Contains out c ⊎ (c ≡ v))
  pub rises : Rises new
