-- The fields of a record that are still to be read. Defined here.
use Rattle.std.specs.Prelude.{ℕ, List, [], Option, Some, None}
use Rattle.pmf_storelog.specs.Records.{fields_of}

-- none, or those of the text that is left
unfoldable pub fields_left : Option (List ℕ) → List (List ℕ)
fields_left None = []
fields_left (Some text) = fields_of text
