use Rattle.std.proofs.Common.{◌≤◌, vec_len}
use Rattle.pmf_runs.specs.{Ranks.{SameStates}, Leaves.{leaf_state}, Joined.{JoinedBeside}}
use Rattle.pmf_runs.proofs.leaf.Leaf.join_between.Given as goal

abbrev pub invariant-loop-key : goal.invariant-loop-key
invariant-loop-key g l = record {
  within : l.key ≤ vec_len l.self.keys;
  walk : JoinedBeside l.initial.self l.low l.high → JoinedBeside l.self l.low l.key;
  same : SameStates (leaf_state l.initial.self) (leaf_state l.self);
}

abbrev pub decreases-loop-key : goal.decreases-loop-key
decreases-loop-key g l = l.key
