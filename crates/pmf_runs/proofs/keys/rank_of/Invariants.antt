use Rattle.std.proofs.Common.{◌-◌, ℕ, ◌<◌, ◌≤◌, length, get_or}
use Rattle.pmf_runs.proofs.keys.rank_of.Given as goal

abbrev pub invariant-loop-low : goal.invariant-loop-low
invariant-loop-low l = record {
  order : l.low ≤ l.high;
  bound : l.high ≤ length l.keys;
  upto : (k : ℕ) → k < l.low → get_or l.keys k 0 ≤ l.place;
  beyond : l.high < length l.keys → l.place < get_or l.keys l.high 0;
}

abbrev pub decreases-loop-low : goal.decreases-loop-low
decreases-loop-low l = l.high - l.low
