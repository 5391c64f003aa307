-- Which stores of a section no later assertion covers. Defined here.
use Rattle.std.specs.Prelude.{◌≡◌, ℕ, suc, Bool, false, not, ◌&&◌, ◌||◌, is_some, List, Option, Some, None, length}
use Rattle.pmf_event.specs.{declared.event.Event.{Event}, declared.event.Event.TheVariants.{Store, Persist, Ordered}, Span.{Extent, covers_byte}, Places.{count, some_between}, Ranges.{first_byte}, Store.{event_at, at}, Transactions.{closes_scope, in_scope, in_transaction}}
use Rattle.pmf_runs.specs.Runs.{state_at}
use Rattle.pmf_lint.specs.{declared.covering.Later.{Later}, Marks.{Marks}}

-- whether the event is an assertion of persistence or of an order that names the byte
unfoldable pub names : ℕ → Event → Bool
names b (Persist s) = covers_byte s b
names b (Ordered s t) = covers_byte s b || covers_byte t b
names b _ = false

-- whether such an assertion after place p names byte b
unfoldable pub is_named_after : List Event → ℕ → ℕ → Bool
is_named_after es p b = some_between (at (names b) es) p (suc (length es))

-- whether a CHECKEND comes after place p
unfoldable pub is_closed_after : List Event → ℕ → Bool
is_closed_after es p = some_between (at closes_scope es) p (suc (length es))

-- whether a transaction runs at place p, inside a scope
unfoldable pub is_inside : List Event → ℕ → Bool
is_inside es p = in_transaction es p && in_scope es p

-- whether a later assertion covers a store to the span at place p: one that names one of its bytes, or, where it stands in a
-- transaction and a scope, the CHECKEND that closes the scope
unfoldable pub is_covered : List Event → ℕ → Extent → Bool
is_covered es p s = is_some (first_byte (is_named_after es p) s) || (is_inside es p && is_closed_after es p)

-- whether the event that stands at place p is a store, and no later assertion covers it
abbrev pub lacks_cover : List Event → ℕ → Option Event → Bool
lacks_cover es p (Some (Store s)) = not (is_covered es p s)
lacks_cover es p _ = false

-- whether place p is a store that no later assertion covers
unfoldable pub is_uncovered : List Event → ℕ → Bool
is_uncovered es p = lacks_cover es p (event_at es p)

-- how many stores of a section no later assertion covers
unfoldable pub uncovered_of : List Event → ℕ
uncovered_of es = count (is_uncovered es) (length es)

-- the span of a store
abbrev pub stored_by : Event → Option Extent
stored_by (Store s) = Some s
stored_by _ = None

-- whether there is a span, and the byte is one of it
abbrev pub is_in : Option Extent → ℕ → Bool
is_in None b = false
is_in (Some s) b = covers_byte s b

-- what is kept of the events after place p: the bytes that their assertions name, and whether a CHECKEND is among them
pub record StandsAfter (later : Later) (es : List Event) (p : ℕ) : Type 0 where
  pub named : (b : ℕ) → state_at later.named b ≡ is_named_after es p b
  pub closed : later.closed ≡ is_closed_after es p

-- the list says of each place whether it stands in a transaction and a scope
abbrev pub AreInside : List Event → List Bool → Type 0
AreInside es inside = Marks (is_inside es) (length es) inside
