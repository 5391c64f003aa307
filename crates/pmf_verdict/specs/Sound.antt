-- Soundness: what a row shows as passed holds in every crash image that the rules allow.
-- (E and T of the examples: docs/DEFINITIONS.md)
use Rattle.std.specs.Prelude.{◌≡◌, ℕ, List, Some, Contains}
use Rattle.pmf_event.specs.{declared.event.Event.{Event}, declared.event.Event.TheVariants.{Persist, Ordered, CheckEnd}, declared.finding.Finding.TheVariants.{PersistPass, OrderedPass, CheckPass}, declared.row.Row.{Row}, Span.{Extent}, Store.{event_at}}
use Rattle.pmf_image.specs.Holds.{PersistHolds, OrderedHolds, ScopeHolds}
use Rattle.pmf_verdict.specs.Rows.{row_at}

-- each PERSIST PASS among the rows stands at the place of a persist assertion, and that assertion
-- holds there
-- on E: the only such row is at 5, of event 5
abbrev pub PersistsHold : List Event → List Row → Type 0
PersistsHold es rows = (p : ℕ) → Contains rows (row_at p PersistPass) →
    (s : Extent) × (event_at es p ≡ Some (Persist s)) × PersistHolds es p s

-- each ORDERED PASS among the rows stands at the place of an order assertion, and that assertion holds
-- there
-- on E: there is no such row
abbrev pub OrdersHold : List Event → List Row → Type 0
OrdersHold es rows = (p : ℕ) → Contains rows (row_at p OrderedPass) →
    (a : Extent) × (b : Extent) × (event_at es p ≡ Some (Ordered a b)) × OrderedHolds es p a b

-- each CHECKEND PASS among the rows stands at the place of a CHECKEND, and the scope that it closes holds
-- there
-- on T: there is no such row
abbrev pub ScopesHold : List Event → List Row → Type 0
ScopesHold es rows = (p : ℕ) → Contains rows (row_at p CheckPass) →
    (event_at es p ≡ Some CheckEnd) × ScopeHolds es p
