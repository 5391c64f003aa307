-- The names that wait, in their order. Defined here.
use Rattle.std.specs.{Prelude.{◌≡◌, ◌↔◌, ℕ, List, Option, None, Some, IsTrue, slice_index_or}, BTreeSet.{contains}, Ordering.{nat_cmp, ordering_then}, declared.cmp.Ordering.{Ordering}}
use Rattle.pmf_event.specs.declared.name.Name.{Name}
use Rattle.pmf_merge.specs.{Heads.{IsUpTo}, declared.waiting.{Place.{Place}, Waiting.{Waiting}}}

-- how two names stand: by run, then by number
abbrev pub name_cmp : Name → Name → Ordering
name_cmp a b = ordering_then (nat_cmp a.run b.run) (nat_cmp a.number b.number)

-- how two places stand: by name, then by the index of the text
abbrev pub place_cmp : Place → Place → Ordering
place_cmp a b = ordering_then (name_cmp a.name b.name) (nat_cmp a.index b.index)

-- this name waits at this index
abbrev pub WaitsAt : List (Option Name) → Place → Type 0
WaitsAt names place = slice_index_or names place.index None ≡ Some place.name

-- the places are those of the names that wait
abbrev pub IsWaiting : List (Option Name) → Waiting → Type 0
IsWaiting names waiting = (place : Place) → IsTrue (contains place_cmp waiting.places place) ↔ WaitsAt names place

-- the name waits at this index, and none that waits comes before it
abbrev pub IsLeastName : List (Option Name) → ℕ → Name → Type 0
IsLeastName names index name = (slice_index_or names index None ≡ Some name) × ((i : ℕ) (other : Name) → slice_index_or names i None ≡ Some other → IsUpTo name other)

-- at this index there is this name now, and elsewhere what was there
abbrev pub PutsAt : List (Option Name) → ℕ → Option Name → List (Option Name) → Type 0
PutsAt names index name new = (slice_index_or new index None ≡ name) × ((i : ℕ) → (i ≡ index → ⊥) → slice_index_or new i None ≡ slice_index_or names i None)
