use Rattle.std.proofs.Common.{◌<◌, ◌≤◌, ◌-◌, ℕ, length, get_or}
use Rattle.pmf_shadow.proofs.order.Order.index_of.Given as goal

abbrev pub invariant-loop-low : goal.invariant-loop-low
invariant-loop-low l = record {
  low : l.low ≤ l.high;
  high : l.high ≤ length l.self.numbers.items;
  before : (k : ℕ) → k < l.low → get_or l.self.numbers.items k 0 < l.number;
  behind : (k : ℕ) → l.high ≤ k → k < length l.self.numbers.items → l.number ≤ get_or l.self.numbers.items k 0;
}

abbrev pub decreases-loop-low : goal.decreases-loop-low
decreases-loop-low l = l.high - l.low
