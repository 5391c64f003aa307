use Rattle.std.proofs.Common.{◌≡◌, ◌<◌, ℕ, get_or, true}
use Rattle.pmf_runs.proofs.level.Level.summary.Given as goal

abbrev pub invariant-loop-i : goal.invariant-loop-i
invariant-loop-i g l = record {
  covered : (k : ℕ) (p : g.row.P.Denot) (d : g.row.S.Denot) (b : ℕ) → k < l.i → g.S.State.covers l.summary (g.P.Part.state (get_or l.self.parts.items k p) d b) ≡ true;
}
