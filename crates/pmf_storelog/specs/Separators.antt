-- How the bytes of a log are split into records. Defined here.
use Rattle.std.specs.{Prelude.{ℕ, ◌-◌, Bool, nat_lt, ◌||◌, ◌==◌, List, length, take, drop, map, filter}, List.{slice_split, prefix_len, suffix_len}}

-- whether the byte ends a record: `|`, line feed or carriage return
abbrev pub is_separator : ℕ → Bool
is_separator c = c == 124 || c == 10 || c == 13

-- whether the byte is dropped at both ends of a record: space or tab
abbrev pub is_blank : ℕ → Bool
is_blank c = c == 32 || c == 9

-- the bytes from the first that is no blank on
unfoldable pub without_front_blanks : List ℕ → List ℕ
without_front_blanks bytes = drop (prefix_len is_blank bytes) bytes

-- the bytes up to the last that is no blank
unfoldable pub without_end_blanks : List ℕ → List ℕ
without_end_blanks bytes = take (length bytes - suffix_len is_blank bytes) bytes

-- the bytes without the blanks at both ends
abbrev pub trimmed : List ℕ → List ℕ
trimmed bytes = without_end_blanks (without_front_blanks bytes)

-- whether there is a byte at all
abbrev pub is_filled : List ℕ → Bool
is_filled text = nat_lt 0 (length text)

-- the records that stand in these parts: each part trimmed, empty ones left out
unfoldable pub records_in : List (List ℕ) → List (List ℕ)
records_in parts = filter is_filled (map trimmed parts)

-- what stands before, between and after the separators
unfoldable pub parts_of : List ℕ → List (List ℕ)
parts_of bytes = slice_split is_separator bytes

-- the parts that a separator ended: all but the last
unfoldable pub ended_parts : List ℕ → List (List ℕ)
ended_parts bytes = take (length (parts_of bytes) - 1) (parts_of bytes)

-- the records of a log, bytes after the last separator included
abbrev pub records_of : List ℕ → List (List ℕ)
records_of bytes = records_in (parts_of bytes)

-- the records of a log that a separator ended
abbrev pub ended_records : List ℕ → List (List ℕ)
ended_records bytes = records_in (ended_parts bytes)
