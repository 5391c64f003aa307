-- Bytes as text in ASCII. Defined here.
use Rattle.std.specs.{Prelude.{ℕ, ◌/◌, ◌%◌, Bool, false, ◌&&◌, ◌==◌, nat_le, List, [], ◌∷◌, ◌++◌, length, take, codes, if◌then◌else◌, flat_map}, List.{list_all}, Fmt.{digit_glyph}}

-- whether ASCII prints the byte as a character
unfoldable pub is_printed : ℕ → Bool
is_printed b = nat_le 0x20 b && nat_le b 0x7e

-- whether each byte of the name is such a character
unfoldable pub is_text : List ℕ → Bool
is_text name = list_all (λ b. is_printed b) name

-- a byte as `\xHH`
abbrev pub escaped : ℕ → List ℕ
escaped b = codes "\\x" ++ digit_glyph false (b / 16) ∷ digit_glyph false (b % 16) ∷ []

-- a byte of a name: a backslash twice, and one that is no printed character escaped
unfoldable pub shown_byte : ℕ → List ℕ
shown_byte b = if b == 0x5c then codes "\\\\" else if is_printed b then b ∷ [] else escaped b

-- a text: its first bytes, up to so many, and `..` where there are more
unfoldable pub shown_text : ℕ → List ℕ → List ℕ
shown_text most text = flat_map (λ b. shown_byte b) (take most text) ++ (if nat_le (length text) most then [] else codes "..")
