use Rattle.std.proofs.Common.{◌≤◌, vec_len, None}
use Rattle.pmf_runs.specs.{Ranks.{SameStates}, Levels.{level_state}, Joined.{PartsJoined}}
use Rattle.pmf_runs.proofs.level.Level.join_between.Given as goal

abbrev pub invariant-loop-key : goal.invariant-loop-key
invariant-loop-key g l = record {
  within : l.key ≤ vec_len l.self.keys;
  joined : PartsJoined g.P.Part.joined l.initial.self None None → PartsJoined g.P.Part.joined l.self None None;
  same : SameStates (level_state g.P.Part.state l.initial.self) (level_state g.P.Part.state l.self);
}

abbrev pub decreases-loop-key : goal.decreases-loop-key
decreases-loop-key g l = l.key
