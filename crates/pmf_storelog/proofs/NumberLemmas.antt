-- Reading a numeral digit by digit.
use Rattle.std.{proofs.Common.{◌≡◌, ℕ, ◌+◌, ◌*◌, ◌^◌, ◌<◌, ◌≤◌, drop, get_or, cond, ◌&&◌, nat_lt, List, [], ◌∷◌, Option, Some, None, length, refl, sym, ap, ◌∙◌, arith, lt-ltb, le-ltb, le-leb}, specs.List.{list_all}, proofs.lemmas.List.{drop_more, drop_all}, specs.Char.{digit_value}, specs.Str.Parse.{digits_value_after}, proofs.lemmas.Bool.{lt-leb}, proofs.Math.Bool.{and-false}, proofs.lemmas.Grind.{common_steps}}
use Rattle.pmf_storelog.specs.Numbers.{is_digit_in, is_numeral, numeral_of}

-- what digits give after a value
unfoldable pub numeral_from : ℕ → ℕ → List ℕ → Option ℕ
numeral_from radix value text = cond (list_all (is_digit_in radix) text && nat_lt (digits_value_after radix value text) (2 ^ 64)) (Some (digits_value_after radix value text)) None

pub numeral_of_empty : (radix most : ℕ) (text : List ℕ) → length text ≡ 0 → numeral_of radix most text ≡ None
unfolding numeral_of is_numeral
numeral_of_empty radix most text empty = rw empty refl

pub numeral_of_long : (radix most : ℕ) (text : List ℕ) → most < length text → numeral_of radix most text ≡ None
unfolding numeral_of is_numeral
numeral_of_long radix most text long = rw (lt-ltb 0 (length text) (omega arith), lt-leb (length text) most long) refl

pub numeral_of-from : (radix most : ℕ) (text : List ℕ) → 0 < length text → length text ≤ most → numeral_of radix most text ≡ numeral_from radix 0 text
unfolding numeral_of is_numeral numeral_from
numeral_of-from radix most text filled short = rw (lt-ltb 0 (length text) filled, le-leb (length text) most short) refl

pub numeral_from-digit : (radix value c : ℕ) (text : List ℕ) → digit_value c < radix → numeral_from radix value (c ∷ text) ≡ numeral_from radix (value * radix + digit_value c) text
unfolding numeral_from
numeral_from-digit radix value c text digit = rw (lt-ltb (digit_value c) radix digit) refl

grows : (radix value digit last : ℕ) → 0 < radix → value * radix + digit ≤ last → value ≤ last
grows radix value digit last some le = grind (arith, common_steps)

-- the value never falls
digits_value_after-ge : (radix value : ℕ) (text : List ℕ) → 0 < radix → value ≤ digits_value_after radix value text
digits_value_after-ge radix value [] some = omega arith
digits_value_after-ge radix value (c ∷ text) some =
    grows radix value (digit_value c) (digits_value_after radix (value * radix + digit_value c) text) some
    (digits_value_after-ge radix (value * radix + digit_value c) text some)

pub numeral_from-end : (radix value : ℕ) → value < 2 ^ 64 → numeral_from radix value [] ≡ Some value
unfolding numeral_from
numeral_from-end radix value small = rw (lt-ltb value (2 ^ 64) small) refl

-- where the loop over the digits stands: the rest after the value is the whole
module _ (radix most value i : ℕ) (text : List ℕ) (filled : 0 < length text) (short : length text ≤ most) (left : numeral_from radix value (drop i text) ≡ numeral_from radix 0 text) where
  pub at_other : i < length text → radix ≤ digit_value (get_or text i 0) → None ≡ numeral_of radix most text
  unfolding numeral_from
  at_other within other = grind (arith, common_steps, numeral_of-from, drop_more)

  pub at_digit : i < length text → digit_value (get_or text i 0) < radix → numeral_from radix (value * radix + digit_value (get_or text i 0)) (drop (i + 1) text) ≡ numeral_from radix 0 text
  at_digit within digit = sym (sym left ∙ ap (numeral_from radix value) (drop_more text i 0 within) ∙ numeral_from-digit radix value (get_or text i 0) (drop (i + 1) text) digit)

  pub at_large : 0 < radix → i < length text → digit_value (get_or text i 0) < radix → 2 ^ 64 ≤ value * radix + digit_value (get_or text i 0) → None ≡ numeral_of radix most text
  unfolding numeral_from
  at_large some within digit large = grind (arith, common_steps, numeral_of-from, at_digit, le-ltb, digits_value_after-ge, and-false)

  pub at_end : length text ≤ i → value < 2 ^ 64 → Some value ≡ numeral_of radix most text
  at_end past small = sym (numeral_of-from radix most text filled short ∙ sym left ∙ ap (numeral_from radix value) (drop_all i text past) ∙ numeral_from-end radix value small)
