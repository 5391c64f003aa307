use Rattle.std.proofs.Common.{◌+◌, arith}
use Rattle.pmf_runs.proofs.{LeafLemmas.{rest-copied}, RankLemmas.{rises-drop}, RunRules.{leaf_halves}}
use Rattle.pmf_runs.proofs.leaf.Leaf.halve.Goals as goal

pub invariant_of-result-clause-ordered : goal.invariant_of-result-clause-ordered
invariant_of-result-clause-ordered g c = rises-drop c.args.self.now.keys.items _ (c.parting-half.result + 1) (grind (arith, rest-copied)) c.args.self.now.ordered

pub returns-clause-ok : goal.returns-clause-ok
returns-clause-ok g c = grind (arith, leaf_halves)

pub returns-clause-halved : goal.returns-clause-halved
returns-clause-halved g c = grind (arith, leaf_halves)
