-- The persist interval of a byte (PMTest, ASPLOS 2019): from the epoch of its last store to the end of
-- the epoch in which a fence first completed a write-back of its line that was made after that store. A
-- write-back that no fence follows closes nothing (Intel SDM, CLWB and SFENCE).
use Rattle.std.specs.Prelude.{ℕ, ◌+◌, Bool, false, ◌&&◌, ◌==◌, nat_lt, List, Option, None, Some, is_none, if◌then◌else◌}
use Rattle.pmf_event.specs.{declared.event.Event.{Event}, declared.interval.Interval.{Interval}, Line.{line_of_byte}, Places.{least, some_between}, Store.{at, stores, flushes, is_fence, last, last_store, epoch_of}}

-- whether place w is a write-back of the line, after place k
unfoldable pub writes_back : List Event → ℕ → ℕ → ℕ → Bool
writes_back es line k w = nat_lt k w && at (flushes line) es w

-- the first write-back of the line, at most p, after the last of these stores, or 0
unfoldable pub first_write_back : (Event → Bool) → ℕ → List Event → ℕ → ℕ
first_write_back stored line es p = least (writes_back es line (last stored es p)) p

-- whether place f is a fence with a write-back of the line between place k and it
unfoldable pub closes : List Event → ℕ → ℕ → ℕ → Bool
closes es line k f = at is_fence es f && some_between (at (flushes line) es) k f

-- the first fence, at most p, with a write-back of the line between the last of these stores and it, or 0
unfoldable pub closing_fence : (Event → Bool) → ℕ → List Event → ℕ → ℕ
closing_fence stored line es p = least (closes es line (last stored es p)) p

-- the epoch after that of the fence at place f; none for no place
abbrev pub epoch_after : List Event → ℕ → Option ℕ
epoch_after es f = if f == 0 then None else Some (epoch_of es f + 1)

-- the persist interval of byte b at p; none where it is unwritten
abbrev pub interval_at : List Event → ℕ → ℕ → Option Interval
interval_at es p b =
    if last_store es p b == 0 then None
    else Some (record {
      last = last_store es p b;
      opens = epoch_of es (last_store es p b);
      closes = epoch_after es (closing_fence (stores b) (line_of_byte b) es p);
    })

-- whether there is an interval, and it is open
abbrev pub is_open : Option Interval → Bool
is_open None = false
is_open (Some i) = is_none i.closes
