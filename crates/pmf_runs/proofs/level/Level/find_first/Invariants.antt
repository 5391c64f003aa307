use Rattle.std.proofs.Common.{◌-◌, ◌≤◌, length}
use Rattle.pmf_runs.{specs.Levels.{level_state}, proofs.LevelAskingLemmas.{Sought}}
use Rattle.pmf_runs.proofs.level.Level.find_first.Given as goal

abbrev pub invariant-loop-start : goal.invariant-loop-start
invariant-loop-start g l = record {
  within : l.index ≤ length l.self.keys.items;
  sought : Sought (λ d b. g.T.Test.passes l.test (level_state g.P.Part.state l.self d b)) l.self.keys.items l.first l.end l.start l.index;
}

abbrev pub decreases-loop-start : goal.decreases-loop-start
decreases-loop-start g l = length l.self.keys.items - l.index
