-- What one record says: an event, a section's number, nothing for this checker, or why it is refused. Defined here.
use Rattle.std.specs.{Prelude.{ℕ, Bool, nat_eq, ◌==◌, List, [], ◌∷◌, Option, Some, None, Result, Ok, Err, if◌then◌else◌, codes, bytes_eq}, List.{slice_split, starts_with}}
use Rattle.pmf_event.specs.{declared.event.Event.{Event}, declared.event.Event.TheVariants.{Store, Flush, Fence, Persist, Ordered, Exclude, Include, TxBegin, TxAdd, TxEnd, CheckStart, CheckEnd}, declared.span.SpanFault.{SpanFault}, Span.{Extent, extent_of}}
use Rattle.pmf_storelog.specs.{declared.record.Saying.{Saying}, declared.record.Saying.TheVariants.{Happens, Enters, Skipped}, declared.fault.Cause.{Cause}, declared.fault.Cause.TheVariants.{TooFewFields, BadNumber, BadSpan, UnknownMarker}, Numbers.{number_of}}

-- whether the byte is the semicolon that ends a field
abbrev pub is_field_end : ℕ → Bool
is_field_end c = c == 59

-- the fields of a record, the name first
unfoldable pub fields_of : List ℕ → List (List ℕ)
fields_of text = slice_split is_field_end text

-- the span, or its fault as a record's
abbrev pub span_or_cause : Result Extent SpanFault → Result Extent Cause
span_or_cause (Ok span) = Ok span
span_or_cause (Err fault) = Err (BadSpan fault)

-- the span of two numbers, where both are numbers
abbrev pub span_of_numbers : Option ℕ → Option ℕ → Result Extent Cause
span_of_numbers (Some first) (Some size) = span_or_cause (extent_of first size)
span_of_numbers (Some first) None = Err BadNumber
span_of_numbers None size = Err BadNumber

-- the span that the texts of its first address and of its size spell
unfoldable pub span_of_texts : List ℕ → List ℕ → Result Extent Cause
span_of_texts first size = span_of_numbers (number_of first) (number_of size)

-- the span of a record whose fields are first address and size; further ones are ignored
unfoldable pub span_of_fields : List (List ℕ) → Result Extent Cause
span_of_fields [] = Err TooFewFields
span_of_fields (first ∷ []) = Err TooFewFields
span_of_fields (first ∷ size ∷ more) = span_of_texts first size

-- the span of a store, whose fields are first address, value and size; the value is any bytes
unfoldable pub stored_span : List (List ℕ) → Result Extent Cause
stored_span [] = Err TooFewFields
stored_span (first ∷ []) = Err TooFewFields
stored_span (first ∷ value ∷ []) = Err TooFewFields
stored_span (first ∷ value ∷ size ∷ more) = span_of_texts first size

-- the event of this kind over the span
abbrev pub event_over : (Extent → Event) → Result Extent Cause → Result Saying Cause
event_over kind (Ok span) = Ok (Happens (kind span))
event_over kind (Err cause) = Err cause

-- the order of two spans; a fault of the first comes before one of the second
abbrev pub order_over : Result Extent Cause → Result Extent Cause → Result Saying Cause
order_over (Ok before) (Ok after) = Ok (Happens (Ordered before after))
order_over (Ok before) (Err cause) = Err cause
order_over (Err cause) after = Err cause

-- the order of the spans of these numbers, two each, where all four are numbers
abbrev pub order_of_numbers : Option ℕ → Option ℕ → Option ℕ → Option ℕ → Result Saying Cause
order_of_numbers (Some a) (Some sa) (Some b) (Some sb) =
    order_over (span_or_cause (extent_of a sa)) (span_or_cause (extent_of b sb))
order_of_numbers (Some a) (Some sa) (Some b) None = Err BadNumber
order_of_numbers (Some a) (Some sa) None sb = Err BadNumber
order_of_numbers (Some a) None b sb = Err BadNumber
order_of_numbers None sa b sb = Err BadNumber

-- the order of the spans that these texts spell, two each
unfoldable pub order_of_texts : List ℕ → List ℕ → List ℕ → List ℕ → Result Saying Cause
order_of_texts a sa b sb = order_of_numbers (number_of a) (number_of sa) (number_of b) (number_of sb)

-- the order of a record whose fields are the first address and the size of either span; further ones
-- are ignored
unfoldable pub order_of_fields : List (List ℕ) → Result Saying Cause
order_of_fields [] = Err TooFewFields
order_of_fields (a ∷ []) = Err TooFewFields
order_of_fields (a ∷ sa ∷ []) = Err TooFewFields
order_of_fields (a ∷ sa ∷ b ∷ []) = Err TooFewFields
order_of_fields (a ∷ sa ∷ b ∷ sb ∷ more) = order_of_texts a sa b sb

-- the section of a number, where it is one
abbrev pub section_of_number : Option ℕ → Result Saying Cause
section_of_number (Some number) = Ok (Enters number)
section_of_number None = Err BadNumber

-- the section of a marker whose field is the number; further ones are ignored
unfoldable pub section_of_fields : List (List ℕ) → Result Saying Cause
section_of_fields [] = Err TooFewFields
section_of_fields (number ∷ more) = section_of_number (number_of number)

-- what a name that is none of the table's says: a marker is refused, any other is skipped
unfoldable pub other_name : List ℕ → Result Saying Cause
other_name name = if starts_with nat_eq name (codes "PMT.") then Err UnknownMarker else Ok Skipped

-- what a marker of a transaction, or of the scope of its checks, says with these further fields
unfoldable pub transaction_of : List ℕ → List (List ℕ) → Result Saying Cause
transaction_of name fields =
    if bytes_eq name (codes "PMT.TXBEGIN") then Ok (Happens TxBegin)
    else if bytes_eq name (codes "PMT.TXADD") then event_over TxAdd (span_of_fields fields)
    else if bytes_eq name (codes "PMT.TXEND") then Ok (Happens TxEnd)
    else if bytes_eq name (codes "PMT.CHECKSTART") then Ok (Happens CheckStart)
    else if bytes_eq name (codes "PMT.CHECKEND") then Ok (Happens CheckEnd)
    else other_name name

-- what a record with this name and these further fields says
unfoldable pub saying_of : List ℕ → List (List ℕ) → Result Saying Cause
saying_of name fields =
    if bytes_eq name (codes "STORE") then event_over Store (stored_span fields)
    else if bytes_eq name (codes "FLUSH") then event_over Flush (span_of_fields fields)
    else if bytes_eq name (codes "FENCE") then Ok (Happens Fence)
    else if bytes_eq name (codes "PMT.PERSIST") then event_over Persist (span_of_fields fields)
    else if bytes_eq name (codes "PMT.ORDERED") then order_of_fields fields
    else if bytes_eq name (codes "PMT.EXCLUDE") then event_over Exclude (span_of_fields fields)
    else if bytes_eq name (codes "PMT.INCLUDE") then event_over Include (span_of_fields fields)
    else if bytes_eq name (codes "PMT.SECTION") then section_of_fields fields
    else transaction_of name fields

-- the same of the list of all fields
abbrev pub saying_of_fields : List (List ℕ) → Result Saying Cause
saying_of_fields [] = Ok Skipped
saying_of_fields (name ∷ fields) = saying_of name fields

-- what a record says: an event, a section's number, nothing, or a cause of refusal
unfoldable pub record_of : List ℕ → Result Saying Cause
record_of text = saying_of_fields (fields_of text)
