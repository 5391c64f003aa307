use Rattle.std.proofs.Common.{◌≡◌, ◌++◌, map, take, drop}
use Rattle.pmf_lint.specs.Naming.{counting}
use Rattle.pmf_lint.proofs.naming.count_name.Given as goal

abbrev pub invariant-loop-index : goal.invariant-loop-index
invariant-loop-index l = l.counts.items ≡ map (counting l.name) (take l.index l.initial.counts.items) ++ drop l.index l.initial.counts.items
