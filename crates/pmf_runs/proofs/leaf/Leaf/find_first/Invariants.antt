use Rattle.std.proofs.Common.{◌-◌, None, vec_len}
use Rattle.pmf_event.specs.Ranges.{first_from}
use Rattle.pmf_runs.{specs.Leaves.{leaf_state}, proofs.AskingLemmas.{Asked, first_found}}
use Rattle.pmf_runs.proofs.leaf.Leaf.find_first.Given as goal

abbrev pub invariant-loop-start : goal.invariant-loop-start
invariant-loop-start g l = Asked (λ d. first_from (λ b. g.T.Test.passes l.test (leaf_state l.self d b))) first_found None l.self.keys.items l.first l.end l.start l.index None

abbrev pub decreases-loop-start : goal.decreases-loop-start
decreases-loop-start g l = vec_len l.self.states - l.index
