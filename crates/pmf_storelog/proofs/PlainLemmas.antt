-- The lines of the canonical text of a section have no separator and no blank.
use Rattle.std.{proofs.Common.{◌≡◌, ℕ, ◌^◌, ◌<◌, ◌≤◌, Bool, false, List, ◌++◌, length, refl, arith, rules, length-append, codes}, specs.Fmt.{digits}, specs.Char.{digit_value}, specs.List.{AllByRecursion}, proofs.lemmas.Fmt.{digits_is_IsNumeral}, proofs.lemmas.List.Elements.{All-from_recursion}, proofs.lemmas.Grind.{common_steps}}
use Rattle.pmf_event.specs.{declared.event.Event.{Event}, Address.{address}}
use Rattle.pmf_storelog.{specs.Separators.{is_separator, is_blank}, specs.Canonical.{field_of, fields_of_span, fields_of_event, name_of}, specs.Spelling.{AllValid}, proofs.CanonicalLemmas.{not_digit, each-digits, each-append, fits_of}, proofs.PlainRecordLemmas.{IsPlain}}

-- no byte passes
abbrev NoneIn : (ℕ → Bool) → List ℕ → Type 0
NoneIn p xs = AllByRecursion (λ c. p c ≡ false) xs

-- the text of an event
abbrev pub text_of_event : Event → List ℕ
text_of_event event = name_of event ++ fields_of_event event

module _ (p : ℕ → Bool) (digit : (c : ℕ) → digit_value c < 36 → p c ≡ false) (x : p 120 ≡ false) (semicolon : p 59 ≡ false) (named : (event : Event) → NoneIn p (name_of event)) where
  none-address : (n : ℕ) → n < 2 ^ 64 → NoneIn p (address n)
  none-address n small =
      let numeral = digits_is_IsNumeral 16 false (omega arith) (omega arith) n (omega arith) in
      (digit 48 (omega arith), (x, each-digits _ 16 (λ c small. digit c (omega (arith, small))) (digits 16 false n) numeral.0.1))

  none-field : (n : ℕ) → n < 2 ^ 64 → NoneIn p (field_of n)
  unfolding field_of
  none-field n small = (semicolon, none-address n small)

  none-fields : (event : Event) → AllValid event → NoneIn p (fields_of_event event)
  unfolding fields_of_event fields_of_span
  none-fields event fit = grind (arith, common_steps, each-append, none-field, fits_of, digit)

  none-text : (event : Event) → AllValid event → NoneIn p (text_of_event event)
  none-text event fit = each-append _ (name_of event) (fields_of_event event) (named event) (none-fields event fit)

pub no_separator : (c : ℕ) → digit_value c < 36 → is_separator c ≡ false
no_separator c digit = rw (not_digit 124 c refl digit, not_digit 10 c refl digit, not_digit 13 c refl digit) refl

pub no_blank : (c : ℕ) → digit_value c < 36 → is_blank c ≡ false
no_blank c digit = rw (not_digit 32 c refl digit, not_digit 9 c refl digit) refl

-- a name has no separator and no blank, and is no empty and no long text
pub spelled : (event : Event) → NoneIn is_separator (name_of event) × (NoneIn is_blank (name_of event) × ((5 ≤ length (name_of event)) × (length (name_of event) ≤ 14)))
unfolding name_of
spelled event = grind (arith, common_steps)

pub text_of_event-plain : (event : Event) → AllValid event → IsPlain (text_of_event event)
text_of_event-plain event fit = record {
  filled = omega (arith, (spelled event).1.1.0, length-append (name_of event) (fields_of_event event));
  whole = All-from_recursion (λ c. is_separator c ≡ false) (text_of_event event) (none-text is_separator no_separator refl refl (λ e. (spelled e).0) event fit);
  close = All-from_recursion (λ c. is_blank c ≡ false) (text_of_event event) (none-text is_blank no_blank refl refl (λ e. (spelled e).1.0) event fit);
}

-- the text of the marker
unfoldable pub text_of_marker : ℕ → List ℕ
text_of_marker number = codes "PMT.SECTION" ++ field_of number

pub text_of_marker-plain : (n : ℕ) → n < 2 ^ 64 → IsPlain (text_of_marker n)
unfolding text_of_marker
text_of_marker-plain n small = record {
  filled = omega (arith, length-append (codes "PMT.SECTION") (field_of n));
  whole = All-from_recursion (λ c. is_separator c ≡ false) (text_of_marker n) (each-append _ (codes "PMT.SECTION") (field_of n) (search rules) (none-field is_separator no_separator refl refl (λ e. (spelled e).0) n small));
  close = All-from_recursion (λ c. is_blank c ≡ false) (text_of_marker n) (each-append _ (codes "PMT.SECTION") (field_of n) (search rules) (none-field is_blank no_blank refl refl (λ e. (spelled e).1.0) n small));
}
