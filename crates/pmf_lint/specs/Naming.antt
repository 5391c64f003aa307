-- The names of a log's records: how many records have each. Defined here.
use Rattle.std.specs.{Prelude.{◌≡◌, ℕ, ◌+◌, Bool, not, List, [], ◌∷◌, map, filter, count_by, if◌then◌else◌, bytes_eq}, List.{All, list_any}}
use Rattle.pmf_storelog.specs.LogText.{is_skipped}
use Rattle.pmf_query.specs.RecordNames.{name_of}
use Rattle.pmf_lint.specs.declared.naming.Named.{Named}

-- the names of these records
unfoldable pub names_of : List (List ℕ) → List (List ℕ)
names_of records = map (λ text. name_of text) records

-- the names of those of these records that are skipped
unfoldable pub skipped_names : List (List ℕ) → List (List ℕ)
skipped_names records = map (λ text. name_of text) (filter is_skipped records)

-- each of these names once, in the order in which they first stand
unfoldable pub first_names : List (List ℕ) → List (List ℕ)
first_names [] = []
first_names (name ∷ names) = name ∷ filter (λ other. not (bytes_eq name other)) (first_names names)

-- how many of these names are this one
unfoldable pub count_named : List ℕ → List (List ℕ) → ℕ
count_named name names = count_by (λ other. bytes_eq name other) names

-- whether the name is one of these
unfoldable pub is_among : List (List ℕ) → List ℕ → Bool
is_among listed name = list_any (λ other. bytes_eq other name) listed

-- how many of these names are none of the listed ones
unfoldable pub count_others : List (List ℕ) → List (List ℕ) → ℕ
count_others listed names = count_by (λ name. not (is_among listed name)) names

-- the names of some counts
abbrev pub names_in : List Named → List (List ℕ)
names_in counts = map (λ (c : Named). c.name.now) counts

-- each of the counts is how many of these names are its own
abbrev pub Count : List Named → List (List ℕ) → Type 0
Count counts names = All (λ (c : Named). c.records ≡ count_named c.name.now names) counts

-- the count with one more name
abbrev pub counting : List ℕ → Named → Named
counting name c = record { name = c.name; records = c.records + (if bytes_eq c.name.now name then 1 else 0) }
