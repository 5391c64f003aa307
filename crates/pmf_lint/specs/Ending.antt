-- How a log ends, and what its records tell of whether it is whole, and read as it was meant. Defined here.
use Rattle.std.specs.{Prelude.{ℕ, ◌-◌, Bool, not, ◌&&◌, List, [], length, codes, bytes_eq, slice_index_or}, List.{list_any}}
use Rattle.pmf_storelog.specs.Separators.{is_filled, parts_of, trimmed}
use Rattle.pmf_query.specs.{Decimal.{asserts_decimal}, RecordNames.{name_of}}

-- what stands behind the last separator of a log, without the blanks at both ends
unfoldable pub last_part : List ℕ → List ℕ
last_part bytes = trimmed (slice_index_or (parts_of bytes) (length (parts_of bytes) - 1) [])

-- whether the last record may be cut off: no separator ends it, and it is not STOP
unfoldable pub is_open_ended : List ℕ → Bool
is_open_ended bytes = is_filled (last_part bytes) && not (bytes_eq (last_part bytes) (codes "STOP"))

-- whether one of the records has this name
unfoldable pub has_record : List ℕ → List (List ℕ) → Bool
has_record name records = list_any (λ text. bytes_eq (name_of text) name) records

-- whether START stands without STOP
unfoldable pub lacks_stop : List (List ℕ) → Bool
lacks_stop records = has_record (codes "START") records && not (has_record (codes "STOP") records)

-- whether one of the records asserts bytes of which it writes an address in decimal
unfoldable pub has_decimal : List (List ℕ) → Bool
has_decimal records = list_any asserts_decimal records
