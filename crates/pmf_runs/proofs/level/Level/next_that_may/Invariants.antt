use Rattle.std.proofs.Common.{◌≡◌, ◌<◌, ◌≤◌, ℕ, get_or, false}
use Rattle.pmf_runs.proofs.level.Level.next_that_may.Given as goal

abbrev pub invariant-loop-i : goal.invariant-loop-i
invariant-loop-i g l = record {
  none : (k : ℕ) (p : g.row.P.Denot) (d : g.row.S.Denot) (b : ℕ) → l.index ≤ k → k < l.i → g.T.Test.passes l.test (g.P.Part.state (get_or l.self.parts.items k p) d b) ≡ false;
}
