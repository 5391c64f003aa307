-- The epoch of a write-back: what a shadow keeps in place of the closing fence. No definition above
-- cites this.
use Rattle.std.specs.Prelude.{ℕ, Bool, ◌==◌, List, Option, None, Some, if◌then◌else◌}
use Rattle.pmf_event.specs.{declared.event.Event.{Event}, Store.{epoch_of}, Interval.{first_write_back}}

-- the epoch of a place; none for no place
abbrev pub epoch_unless : List Event → ℕ → Option ℕ
epoch_unless es k = if k == 0 then None else Some (epoch_of es k)

-- the epoch of the first write-back of the line, at most p, after the last of these stores
unfoldable pub write_back_epoch : (Event → Bool) → ℕ → List Event → ℕ → Option ℕ
write_back_epoch stored line es p = epoch_unless es (first_write_back stored line es p)
