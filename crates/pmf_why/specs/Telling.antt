-- What is kept while rows are met. Defined here.
use Rattle.std.specs.{Prelude.{◌≡◌, ℕ, Bool, false, not, ◌||◌, nat_lt, List, ◌++◌, length, map, flat_map, string_bytes, if◌then◌else◌}, List.{AllZip, list_any}}
use Rattle.pmf_event.specs.Section.{Trace}
use Rattle.pmf_request.specs.declared.settings.Reasons.{Reasons}
use Rattle.pmf_why.specs.{declared.kind.Kind.{Kind}, declared.taking.Told.{Told}, declared.plan.Counts.{Counts}, declared.taking.Telling.{Telling}, Kinds.{IsKindOf, is_one_kind}, Plans.{counts_with}, Reasons.{Bad, Part, rows_of_all, told_of}, Why.{IsPart, Tells}}

-- whether a row of the kind is to be told
unfoldable pub is_new_kind : Telling → Kind → Bool
is_new_kind t kind =
    if nat_lt (length t.told.items) t.asked.first then t.asked.all || not (list_any (λ (x : Told). is_one_kind x.kind kind) t.told.items) else false

-- the row is told
pub record IsToldAs (bad : Bad) (told : Told) : Type 0 where
  pub kind : IsKindOf bad told.kind
  pub name : told.name ≡ bad.part.checked.section.name
  pub row : told.row ≡ bad.row
  pub tells : Tells bad (string_bytes told.text)

-- the text of what is told
unfoldable pub told_text : List Told → List ℕ
told_text told = flat_map (λ t. string_bytes t.text) told

-- more is told than before
abbrev pub Grows : List Told → List Told → Type 0
Grows old new = (more : List Told) × (new ≡ old ++ more)

-- these rows were met
pub record HasRows (asked : Reasons) (rows : List Bad) (t : Telling) : Type 0 where
  pub asked_is : t.asked ≡ asked
  pub kinds : AllZip IsKindOf rows t.kinds.items
  pub told : AllZip IsToldAs (told_of asked rows) t.told.items

-- how many rows of the section pass and fail with all changes
abbrev pub counts_of : Part → Counts
counts_of part = counts_with part.checked part.plan

-- these sections were met
pub record HasParts (asked : Reasons) (bytes : List ℕ) (sections : List Trace) (t : Telling) : Type 0 where
  pub parts : List Part
  pub are : AllZip (IsPart asked bytes) sections parts
  pub rows : HasRows asked (rows_of_all asked parts) t
  pub counts : t.counts.items ≡ map (λ part. counts_of part) parts
