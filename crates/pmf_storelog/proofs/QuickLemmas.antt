-- What the quick reading finds, it finds as the definition of a record says.
use Rattle.std.{proofs.Common.{◌≡◌, ℕ, ◌+◌, ◌-◌, length-drop, get_or, append_assoc, append-nil, length-append, ◌^◌, ◌<◌, ◌≤◌, List, [], ◌∷◌, ◌++◌, true, false, rules, length, take, drop, refl, sym, ap, subst, ◌∙◌, arith, codes, Result, Ok, nat_eq, bytes_eq, length-take-le, take-append-drop, take_all, take_at, drop_at}, specs.List.{starts_with, slice_split, join_with_byte}, proofs.lemmas.Slice.Eq.{starts_is, bytes_eq-Decides}, proofs.lemmas.Bool.{false_from_ne_true}, proofs.lemmas.Bool.Decides.{Decides-eqb}, specs.Str.Parse.{AllDigits, digits_value}, proofs.lemmas.List.{drop_more}, proofs.lemmas.List.Elements.{All-from_recursion}, proofs.lemmas.List.Splits.{slice_split_at, join_with_byte-slice_split}, proofs.Math.Nat.{pow-le-pow_right}, proofs.lemmas.Int.Digits.{digits_value-lt}, proofs.lemmas.Grind.{common_steps}}
use Rattle.pmf_storelog.{specs.Numbers.{number_of}, specs.declared.record.Saying.TheVariants.{Happens, Skipped}, specs.Records.{is_field_end, fields_of, record_of, saying_of, transaction_of, saying_of_fields, other_name, order_of_fields, order_of_texts, span_of_fields, span_of_texts, stored_span}, specs.declared.fault.Cause.{Cause}, specs.Separators.{is_separator, is_blank, parts_of}, specs.Quick.{BeginsWithDigits, BeginsWithEvent, BeginsWithField, BeginsWithFields, BeginsWithNumber, BeginsWithPart, HasFields, IsClean}, proofs.CanonicalLemmas.{each-digits, each-append, numeral_of-digits, NoFieldEnd, no_field_end, fields_of-more, fields_of-last}, proofs.PlainRecordLemmas.{IsPlain, records_in-plain}, proofs.PlainLemmas.{no_separator, no_blank}}
use Rattle.pmf_event.specs.{declared.event.Event.{Event}, declared.event.Event.TheVariants.{Fence, Ordered}, Span.{Extent, extent_of}}

-- fewer than 16 digits leave room for one more
pub room_for_a_digit : (text : List ℕ) (count : ℕ) → count < 16 → count ≤ length text → AllDigits 16 (take count text) → digits_value 16 (take count text) < 1152921504606846976
room_for_a_digit text count few within digits = grind (arith, common_steps, digits_value-lt, length-take-le, pow-le-pow_right)

pub begins_with_digits : (text : List ℕ) (value count : ℕ) → 0 < count → count ≤ 16 → count ≤ length text → value < 2 ^ 64 →
    AllDigits 16 (take count text) → value ≡ digits_value 16 (take count text) → BeginsWithDigits text value count
begins_with_digits text value count some few within small digits is = grind (arith, common_steps, numeral_of-digits, length-take-le)

-- what a slice from n on holds
pub slice_tail : (n : ℕ) (xs : List ℕ) → take (length xs - n) (drop n xs) ≡ drop n xs
slice_tail n xs = take_all (length xs - n) (drop n xs) (omega (arith, length-drop n xs))

pub cut_at : (n : ℕ) (xs : List ℕ) → xs ≡ take n xs ++ take (length xs - n) (drop n xs)
cut_at n xs = sym (ap (λ rest. take n xs ++ rest) (slice_tail n xs) ∙ take-append-drop n xs)

-- a text that begins with another
pub begins_with : (text front : List ℕ) → starts_with nat_eq text front ≡ true → text ≡ front ++ take (length text - length front) (drop (length front) text)
begins_with text front starts = (starts_is Decides-eqb text front (starts_with nat_eq text front) refl).0 starts ∙ ap (λ rest. front ++ rest) (sym (slice_tail (length front) text))

-- letters and digits end no field, and are clean
word-NoFieldEnd : (cs : List ℕ) → AllDigits 36 cs → NoFieldEnd cs
word-NoFieldEnd = each-digits _ 36 no_field_end

word-IsClean : (cs : List ℕ) → AllDigits 36 cs → IsClean cs
word-IsClean = each-digits _ 36 (λ c digit. (no_separator c digit, no_blank c digit))

digits-word : (ds : List ℕ) → AllDigits 16 ds → AllDigits 36 ds
digits-word [] each = tt
digits-word (d ∷ ds) each = (omega (arith, each.0), digits-word ds each.1)

-- a field of 0x and digits
pub number_found : (text digits rest : List ℕ) (value count : ℕ) → text ≡ codes "0x" ++ digits → digits ≡ take count digits ++ rest → BeginsWithDigits digits value count → BeginsWithNumber text value rest
unfolding number_of
number_found text digits rest value count hex cut begins = record {
  field = codes "0x" ++ take count digits;
  whole = hex ∙ ap (λ ds. codes "0x" ++ ds) cut;
  word = (omega arith, (omega arith, digits-word (take count digits) begins.digits));
  value_is = begins.value_is;
}

-- a last field
last_field : (text field rest : List ℕ) → text ≡ field ++ rest → AllDigits 36 field → HasFields text (field ∷ []) rest
last_field text field rest whole word = grind (arith, common_steps, word-IsClean, fields_of-last, word-NoFieldEnd)

-- a field before others
next_field : (text field more : List ℕ) (fields : List (List ℕ)) (rest : List ℕ) → text ≡ field ++ 59 ∷ more → AllDigits 36 field → HasFields more fields rest → HasFields text (field ∷ fields) rest
next_field text field more fields rest whole word others = record {
  line = field ++ 59 ∷ others.line;
  whole = whole ∙ ap (λ l. field ++ 59 ∷ l) others.whole ∙ sym (append_assoc field (59 ∷ others.line) rest);
  clean = each-append _ field (59 ∷ others.line) (word-IsClean field word) ((refl, refl), others.clean);
  fields_are = fields_of-more field others.line (word-NoFieldEnd field word) ∙ ap (λ fs. field ∷ fs) others.fields_are;
}

last_number : (text : List ℕ) (value : ℕ) (rest : List ℕ) (n : BeginsWithNumber text value rest) → HasFields text (n.field ∷ []) rest
last_number text value rest n = last_field text n.field rest n.whole n.word

next_number : (text : List ℕ) (value : ℕ) (more rest : List ℕ) (fields : List (List ℕ)) (n : BeginsWithNumber text value (59 ∷ more)) → HasFields more fields rest → HasFields text (n.field ∷ fields) rest
next_number text value more rest fields n others = next_field text n.field more fields rest n.whole n.word others

-- what fields spell
fields_found : {A : Type 0} (read : List (List ℕ) → Result A Cause) (text rest : List ℕ) (fields : List (List ℕ)) (value : A) → HasFields text fields rest → read fields ≡ Ok value → BeginsWithFields read text value (length text - length rest)
fields_found read text rest fields value begins spells = grind (arith, common_steps, length-append)

-- the spans of numbers that were read
module _ (text more last : List ℕ) (first size : ℕ) (span : Extent) (a : BeginsWithNumber text first (59 ∷ more)) (valid : extent_of first size ≡ Ok span) where
  pub span_found : BeginsWithNumber more size last → BeginsWithFields span_of_fields text span (length text - length last)
  unfolding span_of_fields span_of_texts
  span_found b = fields_found span_of_fields text last _ span (next_number text first more last _ a (last_number more size last b)) (rw (a.value_is, b.value_is, valid) refl)

  pub stored_found : (rest : List ℕ) → BeginsWithField more rest → BeginsWithNumber rest size last → BeginsWithFields stored_span text span (length text - length last)
  unfolding stored_span span_of_texts
  stored_found rest v b =
      fields_found stored_span text last _ span
      (next_number text first more last _ a (next_field more v.field rest _ last v.whole v.word (last_number rest size last b)))
      (rw (a.value_is, b.value_is, valid) refl)

  pub order_found : (rest others : List ℕ) (other_first other_size : ℕ) (other : Extent) → BeginsWithNumber more size (59 ∷ rest) → BeginsWithNumber rest other_first (59 ∷ others) → BeginsWithNumber others other_size last →
      extent_of other_first other_size ≡ Ok other → BeginsWithFields order_of_fields text (Happens (Ordered span other)) (length text - length last)
  unfolding order_of_fields order_of_texts
  order_found rest others other_first other_size other b c d fits =
      fields_found order_of_fields text last _ (Happens (Ordered span other))
      (next_number text first more last _ a (next_number more size rest last _ b (next_number rest other_first others last _ c (last_number others other_size last d))))
      (rw (a.value_is, b.value_is, c.value_is, d.value_is, valid, fits) refl)

-- an event of a name and fields
pub event_found : (name text : List ℕ) {A : Type 0} (read : List (List ℕ) → Result A Cause) (value : A) (len : ℕ) (event : Event) → 0 < length name → IsClean name → NoFieldEnd name →
    starts_with nat_eq text (name ++ 59 ∷ []) ≡ true → BeginsWithFields read (take (length text - (length name + 1)) (drop (length name + 1) text)) value len →
    ((fields : List (List ℕ)) → read fields ≡ Ok value → saying_of name fields ≡ Ok (Happens event)) → BeginsWithEvent text event (length name + 1 + len)
unfolding record_of
event_found name text read value len event filled clean one starts found means =
    let begins = found.begins in let rest = take (length text - (length name + 1)) (drop (length name + 1) text) in
    let size : length (name ++ 59 ∷ []) ≡ length name + 1 = length-append name (59 ∷ []) in
    let is : text ≡ name ++ 59 ∷ rest = rw size at (begins_with text (name ++ 59 ∷ []) starts) ∙ append_assoc name (59 ∷ []) rest in
    record {
      line = name ++ 59 ∷ begins.line;
      rest = found.rest;
      whole = is ∙ ap (λ l. name ++ 59 ∷ l) begins.whole ∙ sym (append_assoc name (59 ∷ begins.line) found.rest);
      long = omega (arith, found.long, ap length begins.whole, length-append begins.line found.rest, length-append name (59 ∷ begins.line));
      filled = omega (arith, length-append name (59 ∷ begins.line));
      clean = each-append _ name (59 ∷ begins.line) clean ((refl, refl), begins.clean);
      says = ap saying_of_fields (fields_of-more name begins.line one) ∙ ap (saying_of name) begins.fields_are ∙ means found.fields found.spells;
    }

pub fence_found : (text rest : List ℕ) → text ≡ codes "FENCE" ++ rest → BeginsWithEvent text Fence 5
unfolding record_of saying_of
fence_found text rest is = record {
  line = codes "FENCE";
  rest = rest;
  whole = is;
  long = refl;
  filled = omega arith;
  clean = search rules;
  says = ap saying_of_fields (fields_of-last (codes "FENCE") (search rules));
}

-- a record with a separator after it
part_of : (line more : List ℕ) (c : ℕ) (event : Event) → IsPlain line → is_separator c ≡ true → record_of line ≡ Ok (Happens event) → BeginsWithPart (line ++ c ∷ more) event (length line)
unfolding parts_of
part_of line more c event plain ends says =
    let same : take (length line) (line ++ c ∷ more) ≡ line = take_at line (c ∷ more) _ refl in let one : take (length line + 1) (line ++ c ∷ more) ≡ line ++ c ∷ [] =
    ap (take (length line + 1)) (sym (append_assoc line (c ∷ []) more)) ∙ take_at (line ++ c ∷ []) more (length line + 1) (omega (arith, length-append line (c ∷ []))) in
    record {
      within = omega (arith, length-append line (c ∷ more));
      ends = rw (same, one) (slice_split_at is_separator line c [] plain.whole ends);
      part = rw same (record { alone = records_in-plain line plain; says = says });
    }

pub part_found : (text : List ℕ) (event : Event) (len : ℕ) → BeginsWithEvent text event len → len < length text → is_separator (get_or text len 0) ≡ true → BeginsWithPart text event len
part_found text event len found within ends =
    let each = All-from_recursion (λ b. (is_separator b ≡ false) × (is_blank b ≡ false)) found.line found.clean in
    let plain : IsPlain found.line = record { filled = found.filled; whole = λ k d l. (each k d l).0; close = λ k d l. (each k d l).1 } in
    let rest : found.rest ≡ get_or text len 0 ∷ drop (len + 1) text =
    sym (drop_at found.line found.rest len (sym found.long)) ∙ ap (drop len) (sym found.whole) ∙ drop_more text len 0 within in
    let whole : text ≡ found.line ++ get_or text len 0 ∷ drop (len + 1) text = found.whole ∙ ap (λ l. found.line ++ l) rest in subst (λ t. BeginsWithPart t event len) (sym whole)
    (subst (λ n. BeginsWithPart (found.line ++ get_or text len 0 ∷ drop (len + 1) text) event n) (sym found.long)
    (part_of found.line (drop (len + 1) text) (get_or text len 0) event plain ends found.says))

-- what a text doesn't begin with, its first field doesn't either, and is not
module _ (text name rest : List ℕ) (whole : text ≡ name ++ rest) (front : List ℕ) (other : starts_with nat_eq text front ≡ false) where
  not_named : (more : List ℕ) → bytes_eq name (front ++ more) ≡ false
  not_named more = grind (arith, common_steps, false_from_ne_true, bytes_eq-Decides, append_assoc)

  not_begun : starts_with nat_eq name front ≡ false
  not_begun = grind (arith, common_steps, false_from_ne_true, begins_with, append_assoc)

saying_of-other : (text name rest : List ℕ) (others : List (List ℕ)) → text ≡ name ++ rest →
    starts_with nat_eq text (codes "STORE") ≡ false → starts_with nat_eq text (codes "FLUSH") ≡ false → starts_with nat_eq text (codes "FENCE") ≡ false → starts_with nat_eq text (codes "PMT.") ≡ false →
    saying_of name others ≡ Ok Skipped
unfolding saying_of transaction_of other_name
saying_of-other text name rest others whole store flush fence marker =
    let marked = not_named text name rest whole (codes "PMT.") marker in
    rw (not_named text name rest whole (codes "STORE") store [], not_named text name rest whole (codes "FLUSH") flush [], not_named text name rest whole (codes "FENCE") fence [], marked (codes "PERSIST"), marked (codes "ORDERED"), marked (codes "EXCLUDE"), marked (codes "INCLUDE"), marked (codes "SECTION"), marked (codes "TXBEGIN"), marked (codes "TXADD"), marked (codes "TXEND"), marked (codes "CHECKSTART"), marked (codes "CHECKEND"), not_begun text name rest whole (codes "PMT.") marker) refl

-- a record that begins as none of the names does is skipped
pub record_of_other : (text : List ℕ) →
    starts_with nat_eq text (codes "STORE") ≡ false → starts_with nat_eq text (codes "FLUSH") ≡ false → starts_with nat_eq text (codes "FENCE") ≡ false → starts_with nat_eq text (codes "PMT.") ≡ false →
    record_of text ≡ Ok Skipped
unfolding record_of fields_of
record_of_other text store flush fence marker = by_fields (slice_split is_field_end text) (join_with_byte-slice_split 59 text)
  where
    by_fields : (fields : List (List ℕ)) → join_with_byte 59 fields ≡ text → saying_of_fields fields ≡ Ok Skipped
    by_fields [] whole = refl
    by_fields (name ∷ []) whole = saying_of-other text name [] [] (sym (append-nil name ∙ whole)) store flush fence marker
    by_fields (name ∷ next ∷ others) whole = saying_of-other text name (59 ∷ join_with_byte 59 (next ∷ others)) (next ∷ others) (sym whole) store flush fence marker
