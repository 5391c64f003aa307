use Rattle.std.proofs.Common.{◌≡◌, ◌<◌, ◌≤◌, ℕ, get_or, false}
use Rattle.pmf_runs.proofs.leaf.Leaf.next_passing.Given as goal

abbrev pub invariant-loop-i : goal.invariant-loop-i
invariant-loop-i g l = record {
  none : (k : ℕ) (d : g.row.S.Denot) → l.index ≤ k → k < l.i → g.T.Test.passes l.test (get_or l.self.states.items k d) ≡ false;
}
