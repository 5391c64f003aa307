use Rattle.std.proofs.Common.{◌-◌, ◌≤◌, vec_len}
use Rattle.pmf_runs.{specs.Leaves.{leaf_state}, specs.Lines.{counted_from}, proofs.AskingLemmas.{Asked}}
use Rattle.pmf_runs.proofs.leaf.Leaf.count_lines.Given as goal

abbrev pub invariant-loop-start : goal.invariant-loop-start
invariant-loop-start g l = record {
  bound : l.counted.count ≤ l.counted.next;
  asked : Asked (λ d. counted_from (λ b. g.T.Test.passes l.test (leaf_state l.self d b))) (λ so_far count. count so_far) l.fn.so_far l.self.keys.items l.first l.end l.start l.index l.counted;
}

abbrev pub decreases-loop-start : goal.decreases-loop-start
decreases-loop-start g l = vec_len l.self.states - l.index
