use Rattle.std.proofs.Common.{◌-◌, ◌≡◌, ◌<◌, ◌≤◌, ◌+◌, vec_len}
use Rattle.pmf_runs.specs.{Ranks.{rank, AltersWithin}, Leaves.{leaf_state}}
use Rattle.pmf_runs.proofs.leaf.Leaf.altered.Given as goal

abbrev pub invariant-loop-start : goal.invariant-loop-start
invariant-loop-start g l = record {
  index : l.start < l.end → l.index ≡ rank l.self.keys.items l.start;
  past : l.index ≤ vec_len l.self.keys + 1;
  first : l.start < l.end → l.first ≤ l.altered.first;
  after : l.start < l.end → l.first ≤ l.start;
  upto : l.altered.first < l.altered.end → l.altered.end ≤ l.end;
  found : AltersWithin l.first l.start l.altered.first l.altered.end (g.C.Change.changed l.change) (leaf_state l.self);
}

abbrev pub decreases-loop-start : goal.decreases-loop-start
decreases-loop-start g l = l.end - l.start
