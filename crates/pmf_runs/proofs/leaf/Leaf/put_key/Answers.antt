use Rattle.std.proofs.Common.{arith}
use Rattle.pmf_runs.proofs.RunRules.{leaf_key}
use Rattle.pmf_runs.proofs.leaf.Leaf.put_key.Goals as goal

pub invariant_of-self-2 : goal.invariant_of-self-2
invariant_of-self-2 g c = grind (arith, leaf_key)

pub returns-in_err-make_room-clause-kept : goal.returns-in_err-make_room-clause-kept
returns-in_err-make_room-clause-kept g c = grind (arith, leaf_key)

pub returns-in_err-make_room-2-clause-kept : goal.returns-in_err-make_room-2-clause-kept
returns-in_err-make_room-2-clause-kept g c = grind (arith, leaf_key)

pub returns-in_err-make_room-clause-same : goal.returns-in_err-make_room-clause-same
returns-in_err-make_room-clause-same g c = grind (arith, leaf_key)

pub returns-in_err-make_room-2-clause-same : goal.returns-in_err-make_room-2-clause-same
returns-in_err-make_room-2-clause-same g c = grind (arith, leaf_key)

pub returns-in_err-insert-clause-kept : goal.returns-in_err-insert-clause-kept
returns-in_err-insert-clause-kept g c = grind (arith, leaf_key)

pub returns-in_err-insert-clause-same : goal.returns-in_err-insert-clause-same
returns-in_err-insert-clause-same g c = grind (arith, leaf_key)

pub returns-clause-begins : goal.returns-clause-begins
returns-clause-begins g c = grind (arith, leaf_key)

pub returns-clause-kept : goal.returns-clause-kept
returns-clause-kept g c = grind (arith, leaf_key)

pub returns-clause-same : goal.returns-clause-same
returns-clause-same g c = grind (arith, leaf_key)

pub returns-clause-joined : goal.returns-clause-joined
returns-clause-joined g c = grind (arith, leaf_key)
