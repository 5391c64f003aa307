-- When an assertion holds: in every crash image that the rules allow, at every crash that it speaks of.
-- The premises: the events are all of one thread's stores, write-backs and fences on its lines, from
-- durable memory on, no other thread writes those lines meanwhile, and the hardware keeps the rules.
-- (E and T of the examples: docs/DEFINITIONS.md)
use Rattle.std.specs.Prelude.{◌≡◌, ℕ, ◌-◌, ◌<◌, ◌≤◌, true, List, length, Option, Some}
use Rattle.pmf_event.specs.{declared.event.Event.{Event}, declared.event.Event.TheVariants.{Persist, Ordered, CheckEnd}, declared.span.TheConstants.{ADDRESS_LIMIT}, Span.{Extent, covers_byte}, Store.{event_at, last_store}, Persist.{is_checked}, Exclusion.{is_included}, Transactions.{is_scoped}}
use Rattle.pmf_image.specs.Image.{Image, IsAllowed, shows}

-- a persist assertion over the span holds at p: wherever a crash comes from p to the end of the section,
-- whatever image is allowed there, each checked byte shows its last store at p or a later one
-- on E: at 5 that over 0x1000 holds, and at 6 that over 0x1008 does not
abbrev pub PersistHolds : List Event → ℕ → Extent → Type 0
PersistHolds es p s =
    (n : ℕ) → p ≤ n → n ≤ length es → (image : Image) → IsAllowed es n image →
    (b : ℕ) → covers_byte s b ≡ true → is_checked es p b ≡ true → last_store es p b ≤ shows es n image b

-- an order assertion over the two spans holds at p: wherever a crash comes up to p, whatever image is
-- allowed there, where a checked byte of the second span shows its last store at p, so does each checked
-- byte of the first
-- on E: at 6 that over 0x1000 and 0x1008, 8 bytes each, holds; with the spans exchanged it does not
abbrev pub OrderedHolds : List Event → ℕ → Extent → Extent → Type 0
OrderedHolds es p a b =
    (n : ℕ) → n ≤ p → (image : Image) → IsAllowed es n image →
    (x y : ℕ) → covers_byte a x ≡ true → covers_byte b y ≡ true → is_checked es p x ≡ true → is_checked es p y ≡ true →
    shows es n image y ≡ last_store es p y → shows es n image x ≡ last_store es p x

-- a CHECKEND at p holds: as a persist assertion over the included bytes of the scope that it closes. No
-- span, and so no byte of a scope, lies at or above the limit of addresses
-- on T: that at 6 does not, since nothing is written back
abbrev pub ScopeHolds : List Event → ℕ → Type 0
ScopeHolds es p =
    (n : ℕ) → p ≤ n → n ≤ length es → (image : Image) → IsAllowed es n image →
    (b : ℕ) → b < ADDRESS_LIMIT → is_scoped es (p - 1) b ≡ true → is_included es p b ≡ true → last_store es p b ≤ shows es n image b

-- what the event at p asks holds, if it is an assertion; no other event asks for anything. A CHECKEND without
-- a scope asks for nothing, and one inside of a transaction for the bytes of its scope all the same
abbrev pub EventHolds : List Event → ℕ → Option Event → Type 0
EventHolds es p (Some (Persist s)) = PersistHolds es p s
EventHolds es p (Some (Ordered a b)) = OrderedHolds es p a b
EventHolds es p (Some CheckEnd) = ScopeHolds es p
EventHolds es p _ = Unit {0}

-- the assertion at p holds
abbrev pub Holds : List Event → ℕ → Type 0
Holds es p = EventHolds es p (event_at es p)
