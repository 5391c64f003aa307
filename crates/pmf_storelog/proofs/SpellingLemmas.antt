-- What the text of an event reads as: the event.
use Rattle.std.proofs.{Common.{List, Result, append-nil, ne_eqb, ◌≡◌, ℕ, ◌+◌, ◌^◌, ◌<◌, [], ◌∷◌, ◌++◌, refl, ap, ◌∙◌, arith, rules, append_assoc, codes, Ok, le-ltb}, lemmas.Grind.{common_steps}}
use Rattle.pmf_event.specs.{declared.event.Event.{Event}, declared.event.Event.TheVariants.{Store, Flush, Fence, Persist, Ordered, Exclude, Include, TxBegin, TxAdd, TxEnd, CheckStart, CheckEnd}, declared.span.TheConstants.{SPAN_LIMIT, ADDRESS_LIMIT}, Span.{Extent, IsValidExtent, extent_of}, Address.{address}}
use Rattle.pmf_storelog.{specs.declared.record.Saying.{Saying}, specs.declared.record.Saying.TheVariants.{Happens, Enters}, specs.declared.fault.Cause.{Cause}, specs.Records.{record_of, saying_of, transaction_of, saying_of_fields, section_of_fields, section_of_number, event_over, span_of_fields, stored_span, order_of_fields, order_of_texts, fields_of}, specs.Canonical.{field_of, fields_of_span, fields_of_event, name_of}, proofs.CanonicalLemmas.{NoFieldEnd, fits_of, address-NoFieldEnd, fields_of-more, fields_of-last, fields_of-span, span_of_texts-address, number_of-address}, proofs.PlainLemmas.{text_of_event, text_of_marker}, specs.Spelling.{AllValid}}

pub extent_of-valid : (s : Extent) → IsValidExtent s.first s.size → extent_of s.first s.size ≡ Ok s
extent_of-valid s valid = rw (ne_eqb s.size 0 (λ none. omega (arith, valid.not_empty, none)), le-ltb SPAN_LIMIT s.size valid.small, le-ltb ADDRESS_LIMIT (s.first + s.size) valid.ends) refl

-- a record of a name, and one of a name and the fields of a span
record_of-name : (name : List ℕ) (saying : Result Saying Cause) → NoFieldEnd name → saying_of name [] ≡ saying → record_of (name ++ []) ≡ saying
unfolding record_of
record_of-name name saying none says = rw append-nil (ap saying_of_fields (fields_of-last name none) ∙ says)

record_of-span : (name : List ℕ) (kind : Extent → Event) (s : Extent) → NoFieldEnd name → ((fields : List (List ℕ)) → saying_of name fields ≡ event_over kind (span_of_fields fields)) →
    IsValidExtent s.first s.size → record_of (name ++ fields_of_span s) ≡ Ok (Happens (kind s))
unfolding record_of span_of_fields
record_of-span name kind s none says valid = grind (arith, common_steps, fields_of-span, fits_of, span_of_texts-address, extent_of-valid)

module _ (s : Extent) (valid : IsValidExtent s.first s.size) where
  record_of-store : record_of (codes "STORE" ++ (field_of s.first ++ codes ";0x0" ++ field_of s.size)) ≡ Ok (Happens (Store s))
  unfolding record_of saying_of stored_span field_of
  record_of-store =
      let fits = fits_of s valid in ap saying_of_fields
      (fields_of-more (codes "STORE") ((address s.first ++ codes ";0x0") ++ 59 ∷ address s.size) (search rules)
      ∙ ap (λ rest. codes "STORE" ∷ fields_of rest) (append_assoc (address s.first) (codes ";0x0") (59 ∷ address s.size))
      ∙ ap (λ fs. codes "STORE" ∷ fs) (fields_of-more (address s.first) (codes "0x0" ++ 59 ∷ address s.size) (address-NoFieldEnd s.first fits.first))
      ∙ ap (λ fs. codes "STORE" ∷ address s.first ∷ fs) (fields_of-more (codes "0x0") (address s.size) (search rules))
      ∙ ap (λ fs. codes "STORE" ∷ address s.first ∷ codes "0x0" ∷ fs) (fields_of-last (address s.size) (address-NoFieldEnd s.size fits.size)))
      ∙ ap (event_over Store) (span_of_texts-address s fits (extent_of-valid s valid))

-- the order of the spans that four numbers spell
order_of_texts-address : (a b : Extent) → IsValidExtent a.first a.size → IsValidExtent b.first b.size →
    order_of_texts (address a.first) (address a.size) (address b.first) (address b.size) ≡ Ok (Happens (Ordered a b))
unfolding order_of_texts
order_of_texts-address a b valid_a valid_b = grind (arith, common_steps, number_of-address, fits_of, extent_of-valid)

record_of-ordered : (a b : Extent) → IsValidExtent a.first a.size → IsValidExtent b.first b.size →
    record_of (codes "PMT.ORDERED" ++ (fields_of_span a ++ fields_of_span b)) ≡ Ok (Happens (Ordered a b))
unfolding record_of saying_of order_of_fields fields_of_span field_of
record_of-ordered a b valid_a valid_b =
    let fits_a = fits_of a valid_a in let fits_b = fits_of b valid_b in let name = codes "PMT.ORDERED" in let last = address b.first ++ 59 ∷ address b.size in ap saying_of_fields
    (fields_of-more name ((address a.first ++ 59 ∷ address a.size) ++ 59 ∷ last) (search rules)
    ∙ ap (λ rest. name ∷ fields_of rest) (append_assoc (address a.first) (59 ∷ address a.size) (59 ∷ last))
    ∙ ap (λ fs. name ∷ fs) (fields_of-more (address a.first) (address a.size ++ 59 ∷ last) (address-NoFieldEnd a.first fits_a.first))
    ∙ ap (λ fs. name ∷ address a.first ∷ fs) (fields_of-more (address a.size) last (address-NoFieldEnd a.size fits_a.size))
    ∙ ap (λ fs. name ∷ address a.first ∷ address a.size ∷ fs) (fields_of-more (address b.first) (address b.size) (address-NoFieldEnd b.first fits_b.first))
    ∙ ap (λ fs. name ∷ address a.first ∷ address a.size ∷ address b.first ∷ fs) (fields_of-last (address b.size) (address-NoFieldEnd b.size fits_b.size)))
    ∙ order_of_texts-address a b valid_a valid_b

-- the text of an event reads as the event
pub record_of-event : (event : Event) → AllValid event → record_of (text_of_event event) ≡ Ok (Happens event)
unfolding name_of fields_of_event saying_of transaction_of
record_of-event (Store s) valid = record_of-store s valid
record_of-event (Flush s) valid = record_of-span (codes "FLUSH") Flush s (search rules) (λ fields. refl) valid
record_of-event Fence valid = record_of-name (codes "FENCE") _ (search rules) refl
record_of-event (Persist s) valid = record_of-span (codes "PMT.PERSIST") Persist s (search rules) (λ fields. refl) valid
record_of-event (Ordered a b) valid = record_of-ordered a b valid.0 valid.1
record_of-event (Exclude s) valid = record_of-span (codes "PMT.EXCLUDE") Exclude s (search rules) (λ fields. refl) valid
record_of-event (Include s) valid = record_of-span (codes "PMT.INCLUDE") Include s (search rules) (λ fields. refl) valid
record_of-event TxBegin valid = record_of-name (codes "PMT.TXBEGIN") _ (search rules) refl
record_of-event (TxAdd s) valid = record_of-span (codes "PMT.TXADD") TxAdd s (search rules) (λ fields. refl) valid
record_of-event TxEnd valid = record_of-name (codes "PMT.TXEND") _ (search rules) refl
record_of-event CheckStart valid = record_of-name (codes "PMT.CHECKSTART") _ (search rules) refl
record_of-event CheckEnd valid = record_of-name (codes "PMT.CHECKEND") _ (search rules) refl

-- the text of a marker reads as its number
pub record_of-marker : (n : ℕ) → n < 2 ^ 64 → record_of (text_of_marker n) ≡ Ok (Enters n)
unfolding record_of saying_of section_of_fields text_of_marker field_of
record_of-marker n small =
    ap saying_of_fields
    (fields_of-more (codes "PMT.SECTION") (address n) (search rules) ∙ ap (λ fs. codes "PMT.SECTION" ∷ fs) (fields_of-last (address n) (address-NoFieldEnd n small)))
    ∙ ap section_of_number (number_of-address n small)
