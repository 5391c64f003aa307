-- The canonical text of a section: its marker, and then one text line for each event, every number
-- written as an address is, and the value of a store as 0x0. Defined here.
use Rattle.std.specs.Prelude.{ℕ, List, [], ◌++◌, codes, flat_map}
use Rattle.pmf_event.specs.{declared.event.Event.{Event}, declared.event.Event.TheVariants.{Store, Flush, Fence, Persist, Ordered, Exclude, Include, TxBegin, TxAdd, TxEnd, CheckStart, CheckEnd}, Address.{address}, Section.{Trace}, Span.{Extent}}

-- a field, and the semicolon before it
unfoldable pub field_of : ℕ → List ℕ
field_of n = codes ";" ++ address n

-- the fields of a span: its first address, and its size
unfoldable pub fields_of_span : Extent → List ℕ
fields_of_span s = field_of s.first ++ field_of s.size

-- the name of the record that spells an event
unfoldable pub name_of : Event → List ℕ
name_of (Store s) = codes "STORE"
name_of (Flush s) = codes "FLUSH"
name_of Fence = codes "FENCE"
name_of (Persist s) = codes "PMT.PERSIST"
name_of (Ordered a b) = codes "PMT.ORDERED"
name_of (Exclude s) = codes "PMT.EXCLUDE"
name_of (Include s) = codes "PMT.INCLUDE"
name_of TxBegin = codes "PMT.TXBEGIN"
name_of (TxAdd s) = codes "PMT.TXADD"
name_of TxEnd = codes "PMT.TXEND"
name_of CheckStart = codes "PMT.CHECKSTART"
name_of CheckEnd = codes "PMT.CHECKEND"

-- the fields behind it, each with its semicolon
unfoldable pub fields_of_event : Event → List ℕ
fields_of_event (Store s) = field_of s.first ++ codes ";0x0" ++ field_of s.size
fields_of_event (Flush s) = fields_of_span s
fields_of_event (Persist s) = fields_of_span s
fields_of_event (Ordered a b) = fields_of_span a ++ fields_of_span b
fields_of_event (Exclude s) = fields_of_span s
fields_of_event (Include s) = fields_of_span s
fields_of_event (TxAdd s) = fields_of_span s
fields_of_event _ = []

-- the text line of an event
abbrev pub line_of_event : Event → List ℕ
line_of_event event = name_of event ++ fields_of_event event ++ codes "\n"

-- the text line of a section's marker
unfoldable pub line_of_marker : ℕ → List ℕ
line_of_marker number = codes "PMT.SECTION" ++ field_of number ++ codes "\n"

-- the canonical text of a section
abbrev pub canonical_text : Trace → List ℕ
canonical_text section = line_of_marker section.name.number ++ flat_map line_of_event section.events
