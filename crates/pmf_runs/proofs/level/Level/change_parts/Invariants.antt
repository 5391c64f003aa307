use Rattle.std.proofs.Common.{◌≡◌, ℕ, get_or, ◌+◌, ◌<◌, ◌≤◌}
use Rattle.pmf_runs.specs.{Levels.{Rewrites}, Joined.{JoinsParts}}
use Rattle.pmf_runs.proofs.level.Level.change_parts.Given as goal

abbrev pub invariant-loop-i : goal.invariant-loop-i
invariant-loop-i g l = record {
  upto : l.low < l.i → l.i ≤ l.high + 1;
  keys : l.self.keys ≡ l.initial.self.keys;
  rest : (d : g.row.P.Denot) (k : ℕ) → l.i ≤ k → get_or l.self.parts.items k d ≡ get_or l.initial.self.parts.items k d;
  parts : Rewrites g.P.Part.state (g.C.Change.changed l.change) l.low l.high l.from l.end l.i l.initial.self.parts.items l.self.parts.items;
  joins : JoinsParts g.P.Part.joined l.low l.high l.from l.end l.i l.initial.self.parts.items l.self.parts.items;
}
