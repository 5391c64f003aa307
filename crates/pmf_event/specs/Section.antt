-- A section as a value.
use Rattle.std.specs.Prelude.{List}
use Rattle.pmf_event.specs.{declared.name.Name.{Name}, declared.event.Event.{Event}, declared.event.Event.TheVariants.{Store, Flush, Persist, Ordered, Exclude, Include, TxAdd}, Span.{IsValidExtent}}

-- the name of a section, and its events by their places
-- example: section 0.0 with the events of E
pub record Trace : Type 0 where
  pub name : Name
  pub events : List Event

-- the event's spans are valid
abbrev pub IsValidEvent : Event → Type 0
IsValidEvent (Store s) = IsValidExtent s.first s.size
IsValidEvent (Flush s) = IsValidExtent s.first s.size
IsValidEvent (Persist s) = IsValidExtent s.first s.size
IsValidEvent (Ordered a b) = IsValidExtent a.first a.size × IsValidExtent b.first b.size
IsValidEvent (Exclude s) = IsValidExtent s.first s.size
IsValidEvent (Include s) = IsValidExtent s.first s.size
IsValidEvent (TxAdd s) = IsValidExtent s.first s.size
IsValidEvent _ = Unit {0}
