-- What the quick reading of a record promises of what it has read. Defined here.
use Rattle.std.specs.{Prelude.{◌≡◌, ℕ, ◌+◌, ◌<◌, ◌≤◌, List, [], ◌∷◌, ◌++◌, false, length, take, Some, Result, Ok}, List.{AllByRecursion}, Str.Parse.{AllDigits}}
use Rattle.pmf_event.specs.declared.event.Event.{Event}
use Rattle.pmf_storelog.specs.{declared.fault.Cause.{Cause}, declared.record.Saying.TheVariants.{Happens}, Numbers.{numeral_of, number_of}, Records.{fields_of, record_of}, Separators.{is_blank, is_separator, parts_of, records_in}}

-- the text begins with so many hexadecimal digits, which spell the value
pub record BeginsWithDigits (text : List ℕ) (value count : ℕ) : Type 0 where
  pub within : count ≤ length text
  pub digits : AllDigits 16 (take count text)
  pub value_is : numeral_of 16 16 (take count text) ≡ Some value

-- the text is a field of letters and digits that spells the value, and then the rest
pub record BeginsWithNumber (text : List ℕ) (value : ℕ) (rest : List ℕ) : Type 0 where
  pub field : List ℕ
  pub whole : text ≡ field ++ rest
  pub word : AllDigits 36 field
  pub value_is : number_of field ≡ Some value

-- the text is a field of letters and digits, a semicolon, and then the rest
pub record BeginsWithField (text rest : List ℕ) : Type 0 where
  pub field : List ℕ
  pub whole : text ≡ field ++ 59 ∷ rest
  pub word : AllDigits 36 field

-- no byte of the text is a separator or a blank
abbrev pub IsClean : List ℕ → Type 0
IsClean text = AllByRecursion (λ c. (is_separator c ≡ false) × (is_blank c ≡ false)) text

-- the text begins with these fields, and goes on with the rest
pub record HasFields (text : List ℕ) (fields : List (List ℕ)) (rest : List ℕ) : Type 0 where
  pub line : List ℕ
  pub whole : text ≡ line ++ rest
  pub clean : IsClean line
  pub fields_are : fields_of line ≡ fields

-- the text begins with fields, so many bytes long, that are read as the value
pub record BeginsWithFields {A : Type 0} (read : List (List ℕ) → Result A Cause) (text : List ℕ) (value : A) (len : ℕ) : Type 0 where
  pub fields : List (List ℕ)
  pub rest : List ℕ
  pub begins : HasFields text fields rest
  pub long : len + length rest ≡ length text
  pub spells : read fields ≡ Ok value

-- the text begins with a record, so many bytes long, that says the event
pub record BeginsWithEvent (text : List ℕ) (event : Event) (len : ℕ) : Type 0 where
  pub line : List ℕ
  pub rest : List ℕ
  pub whole : text ≡ line ++ rest
  pub long : len ≡ length line
  pub filled : 0 < length line
  pub clean : IsClean line
  pub says : record_of line ≡ Ok (Happens event)

-- the part is a record as it stands, and says the event
pub record SaysAlone (part : List ℕ) (event : Event) : Type 0 where
  pub alone : records_in (part ∷ []) ≡ part ∷ []
  pub says : record_of part ≡ Ok (Happens event)

-- the text's first part is so long, is ended by a separator, and says the event
pub record BeginsWithPart (text : List ℕ) (event : Event) (len : ℕ) : Type 0 where
  pub within : len < length text
  pub ends : parts_of (take (len + 1) text) ≡ take len text ∷ [] ∷ []
  pub part : SaysAlone (take len text) event
