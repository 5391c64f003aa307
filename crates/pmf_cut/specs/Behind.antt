-- What holds of the whole and of its part from the cut on, event by event. It follows from the cut, and `IsPartOf` keeps it.
use Rattle.std.specs.Prelude.{◌≡◌, ℕ, ◌+◌, ◌<◌, true, List}
use Rattle.pmf_event.specs.{declared.event.Event.{Event}, Store.{last_store}, Interval.{interval_at}, Exclusion.{is_excluded}, Order.{precedes, share_line, is_stored_before}, LineBytes.{is_undurable, is_unwritten}, Transactions.{depth_at, is_backed, in_scope, scope_at, is_scoped}}

-- the same bytes are excluded, undurable and unwritten at n of the whole and at m of the part
pub record SameBytes (es : List Event) (n : ℕ) (fs : List Event) (m : ℕ) : Type 0 where
  pub excluded : (b : ℕ) → is_excluded fs m b ≡ is_excluded es n b
  pub undurable : (b : ℕ) → is_undurable fs m b ≡ is_undurable es n b
  pub unwritten : (b : ℕ) → is_unwritten fs m b ≡ is_unwritten es n b

-- of each byte that the part knows a store of, the whole does; the part does of each that was stored to behind the cut at p, which is
-- behind the part's head of q events; each pair that the part knows is ordered alike; and what it does not know is durable before
-- what was stored to behind the cut
pub record SamePairs (es : List Event) (p n : ℕ) (fs : List Event) (q m : ℕ) : Type 0 where
  pub known : (b : ℕ) → 0 < last_store fs m b → 0 < last_store es n b
  pub fresh : (b : ℕ) → p < last_store es n b → 0 < last_store fs m b
  pub late : (b : ℕ) → q < last_store fs m b → p < last_store es n b
  pub durable : (x y : ℕ) → 0 < last_store fs m x → 0 < last_store fs m y →
      precedes (interval_at fs m x) (interval_at fs m y) ≡ precedes (interval_at es n x) (interval_at es n y)
  pub order : (x y : ℕ) → share_line x y ≡ true → 0 < last_store fs m x → 0 < last_store fs m y → is_stored_before fs m x y ≡ is_stored_before es n x y
  pub old : (x y : ℕ) → last_store fs m x ≡ 0 → 0 < last_store es n x → p < last_store es n y → precedes (interval_at es n x) (interval_at es n y) ≡ true

-- the same transactions run, with the same bytes backed up, and the same scope has the same bytes
pub record SameTransactions (es : List Event) (p n : ℕ) (fs : List Event) (q m : ℕ) : Type 0 where
  pub shift : m + p ≡ n + q
  pub depth : depth_at fs m ≡ depth_at es n
  pub backed : (b : ℕ) → is_backed fs m b ≡ is_backed es n b
  pub scope : in_scope fs m ≡ in_scope es n
  pub opened : in_scope es n ≡ true → scope_at fs m + p ≡ scope_at es n + q
  pub scoped : (b : ℕ) → is_scoped fs m b ≡ is_scoped es n b

-- all of it
pub record IsBehind (es : List Event) (p n : ℕ) (fs : List Event) (q m : ℕ) : Type 0 where
  pub bytes : SameBytes es n fs m
  pub pairs : SamePairs es p n fs q m
  pub transactions : SameTransactions es p n fs q m
