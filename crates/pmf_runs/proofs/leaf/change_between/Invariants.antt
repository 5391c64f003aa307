use Rattle.std.proofs.Common.{◌<◌, ◌≤◌}
use Rattle.pmf_runs.specs.Ranks.{ChangesItems}
use Rattle.pmf_runs.proofs.leaf.change_between.Given as goal

abbrev pub invariant-loop-i : goal.invariant-loop-i
invariant-loop-i g l = record {
  upto : l.low < l.i → l.i ≤ l.high;
  changes : ChangesItems l.low l.i (g.C.Change.changed l.change) l.initial.states l.states;
}
