-- A word is a number where the decimal digits at its front are all of it.
use Rattle.std.{proofs.Common.{◌≡◌, ℕ, ◌^◌, ◌<◌, ◌≤◌, Bool, false, cond, ◌&&◌, nat_lt, nat_le, List, [], length, take, drop, Option, Some, None, refl, arith, Result, lt-ltb, le-ltb, take_all, length-drop}, specs.Str.Parse.{digits_value}, proofs.lemmas.Bool.{lt-leb}, proofs.lemmas.List.{drop_all}, proofs.lemmas.List.Folds.{list_all_at}, proofs.lemmas.List.Sums.{prefix_len_stops}, specs.Result.{OkIff, result_ok}, proofs.lemmas.Grind.{common_steps}}
use Rattle.pmf_storelog.specs.Numbers.{is_digit_in, is_numeral, numeral_of, digits_in_front, number_before, number_in_front}
use Rattle.pmf_world.specs.Schedule.{number_of}

-- the number where it is below 2^32
abbrev pub narrowed : Option ℕ → Option ℕ
narrowed None = None
narrowed (Some n) = cond (nat_lt n (2 ^ 32)) (Some n) None

-- a cast gives the number where it fits
pub narrowed_cast : {E : Type 0} (n : ℕ) (r : Result ℕ E) → OkIff r (n < 2 ^ 32) n → narrowed (Some n) ≡ result_ok r
narrowed_cast n r cast = grind (arith, common_steps, lt-ltb, le-ltb)

pub number_of_long : (word : List ℕ) → 10 < length word → number_of word ≡ None
unfolding number_of is_numeral
number_of_long word long = rw (lt-ltb 0 (length word) (omega arith), lt-leb (length word) 10 long) refl

never : (a b c : Bool) (found : Option ℕ) → cond (a && b && false && c) found None ≡ None
never a b c found = grind (arith, common_steps)

module _ (word : List ℕ) (short : length word ≤ 10) where
  whole : length word ≤ digits_in_front word → number_in_front word ≡ number_before [] (numeral_of 10 20 word)
  unfolding number_in_front
  whole all = rw (take_all (digits_in_front word) word all, drop_all (digits_in_front word) word all) refl

  part : digits_in_front word < length word → number_of word ≡ None
  unfolding number_of is_numeral
  part some =
      rw (list_all_at (is_digit_in 10) word (digits_in_front word) 0 some (prefix_len_stops (is_digit_in 10) word 0 some))
      (never (nat_lt 0 (length word)) (nat_le (length word) 10) (nat_lt (digits_value 10 word) (2 ^ 32)) (Some (digits_value 10 word)))

  front : number_in_front word ≡ number_before (drop (digits_in_front word) word) (numeral_of 10 20 (take (digits_in_front word) word))
  unfolding number_in_front
  front = refl

  pub number_of_none : number_in_front word ≡ None → number_of word ≡ None
  unfolding number_of numeral_of is_numeral
  number_of_none none = grind (arith, common_steps, part, whole, lt-ltb, le-ltb)

  module _ (n : ℕ) (rest : List ℕ) (found : number_in_front word ≡ Some (n, rest)) where
    pub number_of_some : length rest ≡ 0 → number_of word ≡ narrowed (Some n)
    unfolding number_of numeral_of is_numeral
    number_of_some none = grind (arith, common_steps, front, length-drop, whole, lt-ltb, le-ltb)

    pub number_of_rest : 0 < length rest → number_of word ≡ None
    number_of_rest left = grind (arith, common_steps, part, whole)
