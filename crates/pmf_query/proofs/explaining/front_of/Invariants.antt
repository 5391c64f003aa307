use Rattle.std.proofs.Common.{◌≡◌, ◌+◌, Some, length, filter, take}
use Rattle.pmf_query.specs.AllExplained.{fails}
use Rattle.pmf_query.proofs.explaining.front_of.Given as goal

abbrev pub invariant-loop-index : goal.invariant-loop-index
invariant-loop-index l = l.initial.left ≡ Some (l.more + length (filter fails (take l.index l.rows)))
