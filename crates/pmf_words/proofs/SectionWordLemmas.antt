-- The words that name a section: N, and R.N, which has a full stop behind its first digits.
use Rattle.std.proofs.{Common.{◌≡◌, ℕ, ◌+◌, ◌<◌, Bool, false, List, [], ◌∷◌, ◌++◌, length, take, drop, refl, sym, ◌∙◌, ap, append_assoc, arith, Option, Some, None, Result, Ok, Err, IfSome, codes, decimal}, lemmas.Fmt.{parse-decimal, decimal_is_IsNumeral}, lemmas.Grind.{common_steps}}
use Rattle.std.specs.{Prelude.{◌==◌}, List.{position_or_len, before_first, after_first}, Char.{digit_value}, Str.Parse.{AllDigits, ParsesUnsigned}, Result.{result_ok}, declared.num.ParseIntError.{ParseIntError}}
use Rattle.pmf_words.specs.Words.{NamesSection}

abbrev is_stop : ℕ → Bool
is_stop b = b == 46

no_stop : (x : ℕ) → digit_value x < 10 → is_stop x ≡ false
no_stop x small = grind (arith, common_steps)

stop-none : (xs : List ℕ) → AllDigits 10 xs → position_or_len is_stop xs ≡ length xs
stop-none [] all = refl
stop-none (x ∷ xs) (small, all) = grind (arith, common_steps, no_stop x small, stop-none xs all)

stop-behind : (xs ys : List ℕ) → AllDigits 10 xs → position_or_len is_stop (xs ++ 46 ∷ ys) ≡ length xs
stop-behind [] ys all = refl
stop-behind (x ∷ xs) ys (small, all) = grind (arith, common_steps, no_stop x small, stop-behind xs ys all)

front : (xs ys : List ℕ) → take (length xs) (xs ++ ys) ≡ xs
front [] ys = refl
front (x ∷ xs) ys = ap (λ zs. x ∷ zs) (front xs ys)

behind : (xs ys : List ℕ) → drop (length xs + 1) (xs ++ 46 ∷ ys) ≡ ys
behind [] ys = refl
behind (x ∷ xs) ys = grind (arith, common_steps, behind xs ys)

value-same : (read : Result ℕ ParseIntError) (o : Option ℕ) (v n : ℕ) → read ≡ Ok n → o ≡ result_ok read → o ≡ Some v → v ≡ n
value-same (Ok x) o v n is made found = let a : ◌≡◌ {A = Result ℕ ParseIntError} (Ok x) (Ok n) = is in let b : Some x ≡ Some v = sym made ∙ found in cc
value-same (Err e) o v n is made found = let a : ◌≡◌ {A = Result ℕ ParseIntError} (Err e) (Ok n) = is in cc

-- the word without a full stop, and the two words around the first one
pub named-alone : (word : List ℕ) (asked : ℕ) (read : Result ℕ ParseIntError) (number : Option ℕ) (o : Option (ℕ × ℕ)) → position_or_len is_stop word ≡ length word → ParsesUnsigned 64 10 word read →
    number ≡ result_ok read → IfSome o (λ both. (Some asked ≡ Some both.0) × (number ≡ Some both.1)) → IfSome o (λ named. NamesSection word asked named.0 named.1)
named-alone word asked read number None none reads made found = found
named-alone word asked read number (Some (run, n)) none reads made found = record {
  alone = λ m below is. (let same : Some asked ≡ Some run = found.0 in cc, value-same read number n m (parse-decimal 64 m word read below below is reads) made found.1);
  both = λ r m small below named.
      let is = named ∙ append_assoc (decimal r) (codes ".") (decimal m) in
      let at = sym (ap (position_or_len is_stop) is ∙ stop-behind (decimal r) (decimal m) (decimal_is_IsNumeral r small).0.1) ∙ none ∙ ap length is in
      absurd (grind (arith, common_steps));
}

pub named-both : (word before after : List ℕ) (asked : ℕ) (front_read behind_read : Result ℕ ParseIntError) (run number : Option ℕ) (o : Option (ℕ × ℕ)) →
    before ≡ before_first is_stop word → after ≡ after_first is_stop word → position_or_len is_stop word < length word →
    ParsesUnsigned 64 10 before front_read → ParsesUnsigned 64 10 after behind_read → run ≡ result_ok front_read → number ≡ result_ok behind_read →
    IfSome o (λ both. (run ≡ Some both.0) × (number ≡ Some both.1)) → IfSome o (λ named. NamesSection word asked named.0 named.1)
named-both word before after asked a b run number None fore aft within ra rb ma mb found = found
named-both word before after asked a b run number (Some (r, n)) fore aft within ra rb ma mb found = record {
  alone = λ m below is.
      let at = ap (position_or_len is_stop) is ∙ stop-none (decimal m) (decimal_is_IsNumeral m below).0.1 ∙ ap length (sym is) in
      absurd (omega (arith, at, within));
  both = λ k m small below named.
      let is = named ∙ append_assoc (decimal k) (codes ".") (decimal m) in
      let at = ap (position_or_len is_stop) is ∙ stop-behind (decimal k) (decimal m) (decimal_is_IsNumeral k small).0.1 in
      let before_is : before ≡ decimal k = fore ∙ rw (at) (ap (take (length (decimal k))) is) ∙ front (decimal k) (46 ∷ decimal m) in
      let after_is : after ≡ decimal m = aft ∙ rw (at) (ap (drop (length (decimal k) + 1)) is) ∙ behind (decimal k) (decimal m) in
      (value-same a run r k (parse-decimal 64 k before a small small before_is ra) ma found.0, value-same b number n m (parse-decimal 64 m after b below below after_is rb) mb found.1);
}
