-- The names of records, and those that the format has. Defined here.
use Rattle.std.specs.Prelude.{ℕ, List, [], ◌∷◌, codes}
use Rattle.pmf_storelog.specs.Records.{fields_of}

-- the first of these fields
abbrev pub first_field : List (List ℕ) → List ℕ
first_field [] = []
first_field (name ∷ fields) = name

-- the name of a record: its first field
unfoldable pub name_of : List ℕ → List ℕ
name_of text = first_field (fields_of text)

-- the names that a log's records may have, in the order of their table
abbrev pub known_names : List (List ℕ)
known_names =
    codes "STORE" ∷ codes "FLUSH" ∷ codes "FENCE" ∷ codes "PMT.PERSIST" ∷ codes "PMT.ORDERED" ∷ codes "PMT.EXCLUDE" ∷ codes "PMT.INCLUDE"
    ∷ codes "PMT.TXBEGIN" ∷ codes "PMT.TXADD" ∷ codes "PMT.TXEND" ∷ codes "PMT.CHECKSTART" ∷ codes "PMT.CHECKEND" ∷ codes "PMT.SECTION" ∷ []
