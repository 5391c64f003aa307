-- Which events a log can spell: those whose spans keep the limits. Defined here.
use Rattle.pmf_event.specs.{declared.event.Event.{Event}, Span.{Extent, IsValidExtent}, Section.{IsValidEvent}}

-- the span keeps the limits of spans
abbrev pub IsValid : Extent → Type 0
IsValid s = IsValidExtent s.first s.size

-- each span of the event does
abbrev pub AllValid : Event → Type 0
AllValid = IsValidEvent
