-- A decimal number at the front of a text.
use Rattle.std.{proofs.Common.{◌≡◌, ℕ, ◌^◌, ◌<◌, false, List, [], ◌∷◌, ◌++◌, Some, length, refl, arith, decimal, lt-ltb, take_at, drop_at}, specs.Prelude.{⊤}, specs.List.{prefix_len}, specs.Str.Parse.{AllDigits}, proofs.lemmas.Fmt.{decimal_is_IsNumeral, length-decimal-le}, proofs.lemmas.Grind.{common_steps}}
use Rattle.pmf_storelog.{specs.Numbers.{is_digit_in, numeral_of, digits_in_front, number_before, number_in_front}, proofs.CanonicalLemmas.{numeral_of-digits}}

-- the text is empty, or begins with a byte that is no digit in this radix
abbrev pub BeginsWithNone : ℕ → List ℕ → Type 0
BeginsWithNone radix [] = ⊤
BeginsWithNone radix (c ∷ rest) = is_digit_in radix c ≡ false

-- no decimal one
abbrev pub BeginsWithNoDigit : List ℕ → Type 0
BeginsWithNoDigit text = BeginsWithNone 10 text

digits_behind : (radix : ℕ) (rest : List ℕ) → BeginsWithNone radix rest → prefix_len (is_digit_in radix) rest ≡ 0
digits_behind radix rest none = grind (arith, common_steps)

pub digits-front : (radix : ℕ) (ds rest : List ℕ) → AllDigits radix ds → BeginsWithNone radix rest → prefix_len (is_digit_in radix) (ds ++ rest) ≡ length ds
digits-front radix [] rest each none = digits_behind radix rest none
digits-front radix (d ∷ ds) rest each none = grind (arith, common_steps, lt-ltb, digits-front radix ds rest each.1 none)

numeral_of-decimal : (n : ℕ) → n < 2 ^ 64 → numeral_of 10 20 (decimal n) ≡ Some n
numeral_of-decimal n small =
    let numeral = decimal_is_IsNumeral n small in numeral_of-digits 10 20 (decimal n) n numeral.0.0 (length-decimal-le 20 n (omega arith) (omega arith) small) numeral.0.1 numeral.1 small

front : (ds rest : List ℕ) → digits_in_front (ds ++ rest) ≡ length ds → number_in_front (ds ++ rest) ≡ number_before rest (numeral_of 10 20 ds)
unfolding number_in_front
front ds rest count = rw (count, take_at ds rest (length ds) refl, drop_at ds rest (length ds) refl) refl

-- what is written of a number reads as the number, whatever follows it that begins with no digit
pub number_in_front-decimal : (n : ℕ) (rest : List ℕ) → n < 2 ^ 64 → BeginsWithNoDigit rest → number_in_front (decimal n ++ rest) ≡ Some (n, rest)
number_in_front-decimal n rest small none = grind (arith, common_steps, decimal_is_IsNumeral, front, digits-front, numeral_of-decimal)
