use Rattle.std.proofs.Common.{◌≡◌, None}
use Rattle.pmf_runs.specs.{Ranks.{rank, SameStates}, Levels.{level_state}, Joined.{PartsJoined}, Spaces.{size_at}}
use Rattle.pmf_runs.proofs.level.Level.split_full.Given as goal

abbrev pub invariant-loop-self : goal.invariant-loop-self
invariant-loop-self g l = record {
  at : l.index ≡ rank l.self.keys.items l.place;
  joined : PartsJoined g.P.Part.joined l.initial.self None None → PartsJoined g.P.Part.joined l.self None None;
  same : SameStates (level_state g.P.Part.state l.initial.self) (level_state g.P.Part.state l.self);
}

abbrev pub decreases-loop-self : goal.decreases-loop-self
decreases-loop-self g l = size_at g.P.Part.size l.self l.place
