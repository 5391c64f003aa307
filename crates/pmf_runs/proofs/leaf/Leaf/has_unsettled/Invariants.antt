use Rattle.std.proofs.Common.{◌≡◌, ◌<◌, ℕ, get_or, false}
use Rattle.pmf_runs.proofs.leaf.Leaf.has_unsettled.Given as goal

abbrev pub invariant-loop-i : goal.invariant-loop-i
invariant-loop-i g l = record {
  none : l.found ≡ false → (k : ℕ) (d : g.row.S.Denot) → k < l.i → g.S.State.unsettled (get_or l.self.states.items k d) ≡ false;
}
