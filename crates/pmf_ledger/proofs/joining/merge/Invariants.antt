use Rattle.std.proofs.Common.{◌+◌, ◌≤◌, vec_len, vec_capacity}
use Rattle.pmf_ledger.specs.Joining.{IsMerging}
use Rattle.pmf_ledger.proofs.joining.merge.Given as goal

abbrev pub invariant-loop-second : goal.invariant-loop-second
invariant-loop-second l = record {
  merging : IsMerging l.fn.first.items l.fn.second.items l.first.items l.second.items l.merged.items;
  room : vec_len l.first + vec_len l.second + vec_len l.merged ≤ vec_capacity l.merged;
}

abbrev pub decreases-loop-second : goal.decreases-loop-second
decreases-loop-second l = vec_len l.first + vec_len l.second
