-- Records that write an address in decimal. Defined here.
use Rattle.std.specs.{Prelude.{ℕ, Bool, false, not, ◌||◌, nat_eq, List, [], codes, bytes_eq, slice_index_or, if◌then◌else◌}, List.{starts_with}}
use Rattle.pmf_storelog.specs.Records.{fields_of}
use Rattle.pmf_query.specs.RecordNames.{name_of}

-- whether the field of this index begins without `0x`
unfoldable pub is_decimal : List ℕ → ℕ → Bool
is_decimal text index = not (starts_with nat_eq (slice_index_or (fields_of text) index []) (codes "0x"))

-- whether the record asserts bytes of which it writes an address in decimal
unfoldable pub asserts_decimal : List ℕ → Bool
asserts_decimal text =
    if bytes_eq (name_of text) (codes "PMT.PERSIST") then is_decimal text 1
    else if bytes_eq (name_of text) (codes "PMT.ORDERED") then is_decimal text 1 || is_decimal text 3 else false
