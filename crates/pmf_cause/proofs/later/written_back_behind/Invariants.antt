use Rattle.std.proofs.Common.{◌≡◌, ◌-◌, ◌<◌, ◌≤◌, ℕ, suc, true, length, get_or}
use Rattle.pmf_event.specs.declared.row.Row.{Row}
use Rattle.pmf_cause.specs.Later.{IsLater, asks_byte, behind_row}
use Rattle.pmf_cause.proofs.later.written_back_behind.Given as goal

abbrev pub invariant-loop-left : goal.invariant-loop-left
invariant-loop-left l = record {
  few : l.left ≤ length l.rows;
  later : IsLater l.watch l.later l.events;
  within : l.later.place ≤ length l.events;
  behind : (k : ℕ) (r : Row) → k < l.left → (get_or l.rows k r).place - 1 ≤ l.later.place;
  long : length l.found.items ≡ length l.rows - l.left;
  each : (k d : ℕ) (r : Row) → l.left ≤ k → k < length l.rows → asks_byte (get_or l.rows k r).finding ≡ true → get_or l.found.items (length l.rows - suc k) d ≡ behind_row l.events (get_or l.rows k r);
}

abbrev pub decreases-loop-left : goal.decreases-loop-left
decreases-loop-left l = l.left
