use Rattle.std.proofs.Common.{◌≡◌, ◌<◌, ℕ, get_or, true}
use Rattle.pmf_runs.proofs.leaf.Leaf.summary.Given as goal

abbrev pub invariant-loop-i : goal.invariant-loop-i
invariant-loop-i g l = record {
  covered : (k : ℕ) (d : g.row.S.Denot) → k < l.i → g.S.State.covers l.summary (get_or l.self.states.items k d) ≡ true;
}
