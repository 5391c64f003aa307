-- Exactness: which assertions hold, by their rows. An assertion holds if it does so at each crash that it speaks
-- of, in every image that the rules allow there, torn stores included.
use Rattle.std.specs.Prelude.{◌≡◌, ◌↔◌, ◌⊎◌, ℕ, ◌-◌, true, false, List, Some, Contains}
use Rattle.pmf_event.specs.{declared.event.Event.{Event}, declared.event.Event.TheVariants.{Persist, Ordered, CheckEnd}, declared.finding.Finding.TheVariants.{PersistPass, PersistEmpty, OrderedPass, OrderedEmpty, OrderedSameLine, CheckPass}, declared.profile.Profile.{Profile}, declared.profile.Profile.TheVariants.{One, Two}, declared.row.Row.{Row}, Span.{Extent, covers_byte}, Store.{event_at, last_store}, Persist.{is_checked}, Order.{is_unordered}, Transactions.{in_scope, in_transaction}}
use Rattle.pmf_image.specs.{Holds.{PersistHolds, OrderedHolds, ScopeHolds}, Laws.{PairsAreOneByte}}
use Rattle.pmf_verdict.specs.Rows.{row_at}

-- a persist assertion holds exactly where its row is PASS or EMPTY
abbrev pub PersistsAreExact : List Event → List Row → Type 0
PersistsAreExact es rows = (p : ℕ) (s : Extent) → event_at es p ≡ Some (Persist s) →
    PersistHolds es p s ↔ (Contains rows (row_at p PersistPass) ⊎ Contains rows (row_at p PersistEmpty))

-- a CHECKEND that closes a scope outside of transactions holds exactly where its row is PASS
abbrev pub ScopesAreExact : List Event → List Row → Type 0
ScopesAreExact es rows = (p : ℕ) → event_at es p ≡ Some CheckEnd → in_scope es (p - 1) ≡ true → in_transaction es (p - 1) ≡ false →
    ScopeHolds es p ↔ Contains rows (row_at p CheckPass)

-- the row of an order assertion at p is PASS or EMPTY
abbrev pub IsPassOrEmpty : List Row → ℕ → Type 0
IsPassOrEmpty rows p = Contains rows (row_at p OrderedPass) ⊎ Contains rows (row_at p OrderedEmpty)

-- it is PASS, EMPTY or SAMELINE
abbrev pub IsNotFailed : List Row → ℕ → Type 0
IsNotFailed rows p = IsPassOrEmpty rows p ⊎ ((x : ℕ) × (y : ℕ) × Contains rows (row_at p (OrderedSameLine x y)))

-- the two spans have no checked byte in common
abbrev pub AreApart : List Event → ℕ → Extent → Extent → Type 0
AreApart es p a b = (x : ℕ) → covers_byte a x ≡ true → covers_byte b x ≡ true → is_checked es p x ≡ false

-- an order assertion whose row is PASS or EMPTY holds. By profile One, one that holds is PASS, EMPTY or SAMELINE;
-- by profile Two it holds exactly where each unordered pair is one byte with itself, and so over spans without a
-- checked byte in common exactly where its row is PASS or EMPTY
abbrev pub OrderIsExact : Profile → List Event → List Row → ℕ → Extent → Extent → Type 0
OrderIsExact One es rows p a b =
    (IsPassOrEmpty rows p → OrderedHolds es p a b) × (OrderedHolds es p a b → IsNotFailed rows p)
OrderIsExact Two es rows p a b =
    (IsPassOrEmpty rows p → OrderedHolds es p a b) × (OrderedHolds es p a b ↔ PairsAreOneByte es p a b)
    × (AreApart es p a b → (OrderedHolds es p a b ↔ IsPassOrEmpty rows p))

-- each order assertion is exact by the profile
abbrev pub OrdersAreExact : Profile → List Event → List Row → Type 0
OrdersAreExact profile es rows = (p : ℕ) (a b : Extent) → event_at es p ≡ Some (Ordered a b) → OrderIsExact profile es rows p a b

-- the rows are exact by the profile, for assertions of all three kinds
pub record IsExact (profile : Profile) (es : List Event) (rows : List Row) : Type 0 where
  pub persists : PersistsAreExact es rows
  pub orders : OrdersAreExact profile es rows
  pub scopes : ScopesAreExact es rows

-- by profile Two a SAMELINE row stands only where each unordered pair of its assertion was last written by one store
abbrev pub SameLinesAreOneStore : Profile → List Event → List Row → Type 0
SameLinesAreOneStore profile es rows = profile ≡ Two → (p x y : ℕ) (a b : Extent) → event_at es p ≡ Some (Ordered a b) → Contains rows (row_at p (OrderedSameLine x y)) →
    (k l : ℕ) → covers_byte a k ≡ true → covers_byte b l ≡ true → is_unordered profile es p k l ≡ true → last_store es p k ≡ last_store es p l
