-- How the events of a section are kept: of each its kind and a span, and the spans of order assertions beside.
use Rattle.std.specs.Prelude.{ℕ, ◌+◌, ◌<◌, List, [], ◌∷◌, Option, None, Some, slice_get}
use Rattle.std.specs.Int.{w32, to_le_bytes, from_le_bytes}
use Rattle.pmf_event.specs.{declared.event.Event.{Event}, declared.event.Event.TheVariants.{Store, Flush, Fence, Persist, Ordered, Exclude, Include, TxBegin, TxAdd, TxEnd, CheckStart, CheckEnd}, Span.{Extent}}
use Rattle.pmf_event.specs.declared.{packed.Packed.{Packed}, packed.Number.{Number}}
use Rattle.pmf_event.specs.declared.packed.Packed.TheVariants as packed

-- the number
abbrev pub number_of : Number → ℕ
number_of n = from_le_bytes w32 n.bytes

-- a number as it is kept
abbrev pub to_number : ℕ → Number
to_number n = record { bytes = to_le_bytes w32 n }

-- the order assertion of these two spans
abbrev pub ordered_by : Option (Extent × Extent) → Event
ordered_by None = Fence
ordered_by (Some pair) = Ordered pair.0 pair.1

-- the event that is kept so, where these are the spans of the order assertions
abbrev pub event_of : List (Extent × Extent) → Packed → Event
event_of pairs (packed.Store s) = Store s
event_of pairs (packed.Flush s) = Flush s
event_of pairs packed.Fence = Fence
event_of pairs (packed.Persist s) = Persist s
event_of pairs (packed.Ordered n) = ordered_by (slice_get pairs (number_of n))
event_of pairs (packed.Exclude s) = Exclude s
event_of pairs (packed.Include s) = Include s
event_of pairs packed.TxBegin = TxBegin
event_of pairs (packed.TxAdd s) = TxAdd s
event_of pairs packed.TxEnd = TxEnd
event_of pairs packed.CheckStart = CheckStart
event_of pairs packed.CheckEnd = CheckEnd

-- an order assertion names one of so many pairs of spans
abbrev pub IsWithin : ℕ → Packed → Type 0
IsWithin count (packed.Ordered n) = number_of n < count
IsWithin count _ = Unit {0}

-- each order assertion does
abbrev pub AreWithin : ℕ → List Packed → Type 0
AreWithin count [] = Unit {0}
AreWithin count (k ∷ ks) = IsWithin count k × AreWithin count ks

-- the same, where so many order assertions stand before
abbrev pub behind : ℕ → Packed → Packed
behind before (packed.Ordered n) = packed.Ordered (to_number (before + number_of n))
behind before k = k
