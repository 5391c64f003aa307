-- When the image of a certificate contradicts an assertion: its crash is one that the assertion speaks of,
-- and it shows what the assertion rules out. An assertion that an allowed image contradicts does not hold.
use Rattle.std.specs.Prelude.{◌≡◌, ◌≢◌, ℕ, ◌-◌, ◌<◌, ◌≤◌, true, false, List, Option, Some}
use Rattle.pmf_event.specs.{declared.event.Event.{Event}, declared.event.Event.TheVariants.{Persist, Ordered, CheckEnd}, declared.span.TheConstants.{ADDRESS_LIMIT}, Span.{Extent, covers_byte}, Store.{event_at, last_store}, Exclusion.{is_included}, Persist.{is_checked}, Transactions.{in_transaction, in_scope, is_scoped}}
use Rattle.pmf_image.specs.{declared.certificate.Certificate.{Certificate}, Certificate.{shows_in}}

-- a persist assertion over the span at p: the crash is at p or later, and a checked byte shows less than
-- its last store at p
abbrev pub PersistContradicted : List Event → ℕ → Extent → Certificate → Type 0
PersistContradicted es p s c =
    (p ≤ c.crash) × (b : ℕ) × (covers_byte s b ≡ true) × (is_checked es p b ≡ true) × (shows_in es c b < last_store es p b)

-- an order assertion over the two spans at p: the crash is at p or earlier, a checked byte of the second
-- shows its last store at p, and a checked byte of the first doesn't
abbrev pub OrderedContradicted : List Event → ℕ → Extent → Extent → Certificate → Type 0
OrderedContradicted es p a b c =
    (c.crash ≤ p) × (x : ℕ) × (y : ℕ) × (covers_byte a x ≡ true) × (covers_byte b y ≡ true) × (is_checked es p x ≡ true) × (is_checked es p y ≡ true)
    × (shows_in es c y ≡ last_store es p y) × (shows_in es c x ≢ last_store es p x)

-- a CHECKEND at p that closes a scope outside of transactions: the crash is at p or later, and an included
-- byte of the scope shows less than its last store at p
abbrev pub ScopeContradicted : List Event → ℕ → Certificate → Type 0
ScopeContradicted es p c =
    (in_scope es (p - 1) ≡ true) × (in_transaction es (p - 1) ≡ false) × (p ≤ c.crash)
    × (b : ℕ) × (b < ADDRESS_LIMIT) × (is_scoped es (p - 1) b ≡ true) × (is_included es p b ≡ true) × (shows_in es c b < last_store es p b)

-- the event is an assertion, and the certificate contradicts it
abbrev pub ContradictsEvent : List Event → ℕ → Certificate → Option Event → Type 0
ContradictsEvent es p c (Some (Persist s)) = PersistContradicted es p s c
ContradictsEvent es p c (Some (Ordered a b)) = OrderedContradicted es p a b c
ContradictsEvent es p c (Some CheckEnd) = ScopeContradicted es p c
ContradictsEvent es p c _ = ⊥

-- the certificate contradicts the assertion at p
abbrev pub Contradicts : List Event → ℕ → Certificate → Type 0
Contradicts es p c = ContradictsEvent es p c (event_at es p)
