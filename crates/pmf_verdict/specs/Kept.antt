-- When all that a section asserts holds, and when each assertion had something to check. Defined here.
use Rattle.std.specs.Prelude.{◌≡◌, ℕ, ◌-◌, true, false, List, length, Some, Contains}
use Rattle.pmf_event.specs.{declared.event.Event.{Event}, declared.event.Event.TheVariants.{Store, Persist, Ordered, CheckEnd}, declared.row.Row.{Row}, Span.{Extent, covers_byte}, Store.{event_at}, Exclusion.{is_included}, Persist.{is_checked}, Transactions.{in_transaction, is_backed, in_scope}}
use Rattle.pmf_image.specs.Holds.{Holds}
use Rattle.pmf_verdict.specs.{declared.outcome.Outcome.{Outcome}, declared.outcome.Outcome.TheVariants.{Fail, Empty}, Outcome.{outcome_of}}

-- all that a section with these events asserts holds: each assertion at its place, in every crash image that the rules allow; each
-- CHECKEND closes a scope, outside of transactions; each included byte that a transaction stores to in a scope is backed up; and no scope
-- is left open
pub record IsKept (es : List Event) : Type 0 where
  pub holds : (p : ℕ) → Holds es p
  pub closed : (p : ℕ) → event_at es p ≡ Some CheckEnd → (in_scope es (p - 1) ≡ true) × (in_transaction es (p - 1) ≡ false)
  pub backed : (p b : ℕ) (s : Extent) → event_at es p ≡ Some (Store s) → in_transaction es (p - 1) ≡ true → in_scope es (p - 1) ≡ true →
      covers_byte s b ≡ true → is_included es p b ≡ true → is_backed es (p - 1) b ≡ true
  pub ended : in_scope es (length es) ≡ false

-- a byte of the span is checked at p
abbrev pub HasChecked : List Event → ℕ → Extent → Type 0
HasChecked es p s = (b : ℕ) × (covers_byte s b ≡ true) × (is_checked es p b ≡ true)

-- each persist assertion, and each span of an order assertion, had a byte to check
pub record IsFilled (es : List Event) : Type 0 where
  pub persists : (p : ℕ) (s : Extent) → event_at es p ≡ Some (Persist s) → HasChecked es p s
  pub orders : (p : ℕ) (a b : Extent) → event_at es p ≡ Some (Ordered a b) → HasChecked es p a × HasChecked es p b

-- none of the rows counts so
abbrev pub HasNone : Outcome → List Row → Type 0
HasNone outcome rows = (row : Row) → Contains rows row → outcome_of row.finding ≡ outcome → ⊥

-- where no row counts as FAIL, all that is asserted holds; where none counts as EMPTY, each assertion had something to check
pub record IsTold (es : List Event) (rows : List Row) : Type 0 where
  pub kept : HasNone Fail rows → IsKept es
  pub filled : HasNone Empty rows → IsFilled es
