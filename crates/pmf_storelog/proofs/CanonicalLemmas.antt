-- What is written of a number and of a span reads as itself.
use Rattle.std.{proofs.Common.{◌≡◌, ℕ, zero, suc, ◌+◌, ◌*◌, ◌/◌, ◌%◌, ◌^◌, ◌<◌, ◌≤◌, true, false, ◌==◌, if◌then◌else◌, List, [], ◌∷◌, ◌++◌, Some, length, refl, ap, ◌∙◌, arith, inl, inr, Ok, lt-ltb, le-leb, ◌≢◌}, specs.Fmt.{digits_onto, digit_glyph, digits}, specs.Char.{digit_value}, specs.Str.Parse.{digits_value, AllDigits}, specs.List.{list_all, AllByRecursion}, proofs.lemmas.List.Elements.{All-from_recursion}, proofs.lemmas.Fmt.{digits_is_IsNumeral}, proofs.lemmas.Bool.{cases_eq, ne_eqb, eqb-false}, proofs.lemmas.List.Splits.{slice_split_none, slice_split_at}, proofs.lemmas.Grind.{common_steps}}
use Rattle.pmf_event.specs.{Span.{Extent, IsValidExtent, extent_of}, Address.{address}}
use Rattle.pmf_storelog.specs.{Records.{is_field_end, fields_of, span_of_texts}, Numbers.{is_digit_in, is_numeral, numeral_of, number_of}, Canonical.{field_of, fields_of_span}}
use native.Mathlib.Nat.{pow-suc}

-- a number below 16 ^ m has at most m hexadecimal digits
onto-length : (k m n : ℕ) (acc : List ℕ) → 0 < m → n < 16 ^ m → length (digits_onto k 16 false n acc) ≤ m + length acc
onto-length zero m n acc some small = omega arith
onto-length (suc k) zero n acc some small = absurd (omega arith)
onto-length (suc k) (suc m) n acc some small =
    elim (n / 16 == 0) as (λ v. (n / 16 == 0) ≡ v → length (if v then digit_glyph false (n % 16) ∷ acc else digits_onto k 16 false (n / 16) (digit_glyph false (n % 16) ∷ acc)) ≤ suc m + length acc) [
      | true ↦ λ is. omega arith
      | false ↦ λ is.
          let step : n < 16 ^ m * 16 = rw (← pow-suc 16 m) small in let some : n / 16 ≢ 0 = eqb-false (n / 16) 0 is in let below : n / 16 < 16 ^ m = omega arith in
          elim (cases_eq m 0) [
            | inl none ↦ let one : 16 ^ m ≡ 1 = rw none refl in absurd (omega arith)
            | inr left ↦ let rest = onto-length k m (n / 16) (digit_glyph false (n % 16) ∷ acc) (omega arith) below in omega arith
          ]
    ] refl

pub hex-length : (n : ℕ) → n < 2 ^ 64 → length (digits 16 false n) ≤ 16
unfolding digits
hex-length n small = onto-length 64 16 n [] (omega arith) small

all_digits : (radix : ℕ) (ds : List ℕ) → AllDigits radix ds → list_all (is_digit_in radix) ds ≡ true
all_digits radix [] each = refl
all_digits radix (d ∷ ds) each = rw (lt-ltb (digit_value d) radix each.0) (all_digits radix ds each.1)

pub numeral_of-digits : (radix most : ℕ) (ds : List ℕ) (n : ℕ) → 0 < length ds → length ds ≤ most → AllDigits radix ds → digits_value radix ds ≡ n → n < 2 ^ 64 → numeral_of radix most ds ≡ Some n
unfolding numeral_of is_numeral
numeral_of-digits radix most ds n some few each value small = rw (lt-ltb 0 (length ds) some, le-leb (length ds) most few, all_digits radix ds each, value, lt-ltb n (2 ^ 64) small) refl

-- what is written of a number reads as the number
pub number_of-address : (n : ℕ) → n < 2 ^ 64 → number_of (address n) ≡ Some n
unfolding number_of
number_of-address n small = grind (arith, common_steps, digits_is_IsNumeral, numeral_of-digits, hex-length)

-- no byte ends a field
abbrev pub NoFieldEnd : List ℕ → Type 0
NoFieldEnd xs = AllByRecursion (λ c. is_field_end c ≡ false) xs

-- a byte that is no letter or digit is none of them
pub not_digit : (m c : ℕ) → digit_value m ≡ 36 → digit_value c < 36 → (c == m) ≡ false
not_digit m c stop digit = ne_eqb c m (λ same. let large : digit_value c ≡ 36 = ap digit_value same ∙ stop in omega arith)

-- what holds of each digit, and of two lists
pub each-digits : (P : ℕ → Type 0) (radix : ℕ) → ((c : ℕ) → digit_value c < radix → P c) → (ds : List ℕ) → AllDigits radix ds → AllByRecursion P ds
each-digits P radix of_digit [] each = tt
each-digits P radix of_digit (d ∷ ds) each = (of_digit d each.0, each-digits P radix of_digit ds each.1)

pub each-append : (P : ℕ → Type 0) (xs ys : List ℕ) → AllByRecursion P xs → AllByRecursion P ys → AllByRecursion P (xs ++ ys)
each-append P [] ys each more = more
each-append P (x ∷ xs) ys each more = (each.0, each-append P xs ys each.1 more)

pub no_field_end : (c : ℕ) → digit_value c < 36 → is_field_end c ≡ false
no_field_end c digit = not_digit 59 c refl digit

pub address-NoFieldEnd : (n : ℕ) → n < 2 ^ 64 → NoFieldEnd (address n)
address-NoFieldEnd n small =
    let numeral = digits_is_IsNumeral 16 false (omega arith) (omega arith) n (omega arith) in
    (refl, (refl, each-digits _ 16 (λ c digit. no_field_end c (omega (arith, digit))) (digits 16 false n) numeral.0.1))

-- a field without its end, and the rest after one
pub fields_of-more : (front rest : List ℕ) → NoFieldEnd front → fields_of (front ++ 59 ∷ rest) ≡ front ∷ fields_of rest
unfolding fields_of
fields_of-more front rest none = slice_split_at is_field_end front 59 rest (All-from_recursion (λ c. is_field_end c ≡ false) front none) refl

pub fields_of-last : (front : List ℕ) → NoFieldEnd front → fields_of front ≡ front ∷ []
unfolding fields_of
fields_of-last front none = slice_split_none is_field_end front (All-from_recursion (λ c. is_field_end c ≡ false) front none)

-- the two numbers of a span are below 2^64
pub record Fits (s : Extent) : Type 0 where
  pub first : s.first < 2 ^ 64
  pub size : s.size < 2 ^ 64

-- a span keeps its limits
pub fits_of : (s : Extent) → IsValidExtent s.first s.size → Fits s
fits_of s valid = record { first = omega (arith, valid.ends); size = omega (arith, valid.small) }

-- the fields of a name and a span
pub fields_of-span : (name : List ℕ) (s : Extent) → NoFieldEnd name → Fits s → fields_of (name ++ fields_of_span s) ≡ name ∷ address s.first ∷ address s.size ∷ []
unfolding fields_of_span field_of
fields_of-span name s none fits =
    fields_of-more name (address s.first ++ 59 ∷ address s.size) none ∙ ap (λ fs. name ∷ fs) (fields_of-more (address s.first) (address s.size) (address-NoFieldEnd s.first fits.first))
    ∙ ap (λ fs. name ∷ address s.first ∷ fs) (fields_of-last (address s.size) (address-NoFieldEnd s.size fits.size))

-- the span that they spell
pub span_of_texts-address : (s : Extent) → Fits s → extent_of s.first s.size ≡ Ok s → span_of_texts (address s.first) (address s.size) ≡ Ok s
unfolding span_of_texts
span_of_texts-address s fits valid = grind (arith, common_steps, number_of-address)
