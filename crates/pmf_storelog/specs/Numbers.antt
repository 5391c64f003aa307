-- How a number is spelled in a log. Defined here.
use Rattle.std.specs.{Prelude.{ℕ, ◌^◌, Bool, nat_lt, nat_le, nat_eq, ◌&&◌, List, length, take, drop, Option, Some, None, if◌then◌else◌, codes}, List.{list_all, prefix_len, starts_with}, Char.{digit_value}, Str.Parse.{digits_value}}

-- whether the byte is a digit in this radix, letters of either case
abbrev pub is_digit_in : ℕ → ℕ → Bool
is_digit_in radix c = nat_lt (digit_value c) radix

-- whether the text is 1 to `most` digits in this radix
unfoldable pub is_numeral : ℕ → ℕ → List ℕ → Bool
is_numeral radix most text =
    nat_lt 0 (length text) && nat_le (length text) most && list_all (is_digit_in radix) text

-- the number below 2^64 that 1 to `most` digits spell in this radix
unfoldable pub numeral_of : ℕ → ℕ → List ℕ → Option ℕ
numeral_of radix most text =
    let value = digits_value radix text in
    if is_numeral radix most text && nat_lt value (2 ^ 64) then Some value else None

-- the number that the text spells: `0x` and 1 to 16 hexadecimal digits, or 1 to 20 decimal ones
unfoldable pub number_of : List ℕ → Option ℕ
number_of text =
    if starts_with nat_eq text (codes "0x") then numeral_of 16 16 (drop 2 text) else numeral_of 10 20 text

-- how many decimal digits the text begins with
abbrev pub digits_in_front : List ℕ → ℕ
digits_in_front text = prefix_len (is_digit_in 10) text

-- a number with the text behind it
abbrev pub number_before : List ℕ → Option ℕ → Option (ℕ × List ℕ)
number_before rest None = None
number_before rest (Some number) = Some (number, rest)

-- the number that all decimal digits at the front of the text spell, and the text behind them
unfoldable pub number_in_front : List ℕ → Option (ℕ × List ℕ)
number_in_front text =
    let k = digits_in_front text in number_before (drop k text) (numeral_of 10 20 (take k text))
