use Rattle.std.proofs.Common.{◌-◌, ℕ, ◌<◌, ◌≤◌, length, get_or}
use Rattle.pmf_runs.proofs.keys.rank_from.Given as goal

abbrev pub invariant-loop-index : goal.invariant-loop-index
invariant-loop-index l = record {
  bound : l.index ≤ length l.keys;
  upto : (k : ℕ) → k < l.index → get_or l.keys k 0 ≤ l.place;
}

abbrev pub decreases-loop-index : goal.decreases-loop-index
decreases-loop-index l = length l.keys - l.index
