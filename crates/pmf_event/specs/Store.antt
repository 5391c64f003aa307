-- Stores, write-backs and fences at the places of a section's events: the last store of a byte, and the
-- epoch of a place (PMTest, ASPLOS 2019: an epoch ends with each fence). All speak of one list of events
-- and of places in it; "at p" means after the first p events.
-- (E and T of the examples: docs/DEFINITIONS.md)
use Rattle.std.specs.Prelude.{ℕ, zero, suc, ◌-◌, Bool, false, true, List, Option, None, Some, slice_get}
use Rattle.pmf_event.specs.{declared.event.Event.{Event}, declared.event.Event.TheVariants.{Store, Flush, Fence}, Span.{covers_byte}, Line.{meets_line}, Places.{greatest, count}}

-- the event at a place, if there is one
-- on E: at 4 it is a fence, at 0 and 7 there is none
unfoldable pub event_at : List Event → ℕ → Option Event
event_at es zero = None
event_at es (suc k) = slice_get es k

-- whether there is an event, and it passes the test
-- on E: event 4 passes `is_fence`
abbrev pub passes : (Event → Bool) → Option Event → Bool
passes test None = false
passes test (Some e) = test e

-- whether the event at a place passes the test
-- on E: `at is_fence` is true of place 4 alone
unfoldable pub at : (Event → Bool) → List Event → ℕ → Bool
at test es k = passes test (event_at es k)

-- whether the event is a store that covers the byte
-- on E: event 3 is one of 0x1008
unfoldable pub stores : ℕ → Event → Bool
stores b (Store s) = covers_byte s b
stores b _ = false

-- whether the event is a store that meets the line
-- on E: events 1 and 3 are, of line 0x1000
unfoldable pub stores_line : ℕ → Event → Bool
stores_line l (Store s) = meets_line s l
stores_line l _ = false

-- whether the event is a write-back of the line: its span meets it
-- on E: event 2 is, of line 0x1000
unfoldable pub flushes : ℕ → Event → Bool
flushes l (Flush s) = meets_line s l
flushes l _ = false

-- whether the event is a fence
-- on E: event 4 is
unfoldable pub is_fence : Event → Bool
is_fence Fence = true
is_fence _ = false

-- the last place, at most p, whose event passes the test, or 0
-- on E: the last fence at 6 is 4, at 3 it is 0
unfoldable pub last : (Event → Bool) → List Event → ℕ → ℕ
last test es p = greatest (at test es) p

-- the last store of byte b at p, or 0 where it is unwritten
-- on E: of 0x1008 at 6 it is 3, at 2 it is 0
abbrev pub last_store : List Event → ℕ → ℕ → ℕ
last_store es p b = last (stores b) es p

-- the epoch of a place: how many fences stand before it
unfoldable pub epoch_of : List Event → ℕ → ℕ
epoch_of es k = count (at is_fence es) (k - 1)
