-- What is kept where a section is cut: of two lists, each at a place of its own, what is open in the one is open in the
-- other. Defined here.
use Rattle.std.specs.Prelude.{◌≡◌, ℕ, suc, ◌+◌, ◌<◌, true, false, List}
use Rattle.pmf_event.specs.{declared.event.Event.{Event}, Store.{event_at, last_store}, Exclusion.{is_excluded}, Order.{share_line, is_stored_before}, LineBytes.{is_undurable, is_unwritten}, Transactions.{in_transaction, in_scope}}

-- the first q events of the part are like the first p of the whole: the same bytes are excluded, undurable and unwritten,
-- and of undurable bytes on one line the last stores stand in the same order
pub record IsAlike (es : List Event) (p : ℕ) (fs : List Event) (q : ℕ) : Type 0 where
  pub excluded : (b : ℕ) → is_excluded fs q b ≡ is_excluded es p b
  pub undurable : (b : ℕ) → is_undurable fs q b ≡ is_undurable es p b
  pub unwritten : (b : ℕ) → is_unwritten fs q b ≡ is_unwritten es p b
  pub order : (x y : ℕ) → share_line x y ≡ true → is_undurable es p x ≡ true → is_undurable es p y ≡ true →
      is_stored_before fs q x y ≡ is_stored_before es p x y

-- at p no transaction runs, and there is no scope
pub record IsOutside (es : List Event) (p : ℕ) : Type 0 where
  pub transaction : in_transaction es p ≡ false
  pub scope : in_scope es p ≡ false

-- the whole is cut behind its first p events, and the first q of the part are its head: they are like those, and tell
-- of undurable bytes alone; and no transaction runs across the cut, and no scope
pub record IsCut (es : List Event) (p : ℕ) (fs : List Event) (q : ℕ) : Type 0 where
  pub alike : IsAlike es p fs q
  pub fresh : (b : ℕ) → 0 < last_store fs q b → is_undurable fs q b ≡ true
  pub whole : IsOutside es p
  pub part : IsOutside fs q

-- behind the cut the next n events of the part are those of the whole
abbrev pub GoesOn : List Event → ℕ → List Event → ℕ → ℕ → Type 0
GoesOn es p fs q n = (k : ℕ) → k < n → event_at fs (suc (q + k)) ≡ event_at es (suc (p + k))
