use Rattle.std.specs.List.{AllZip}
use Rattle.pmf_farm.specs.Rolls.{Stays}
use Rattle.pmf_farm.proofs.running.collect.Given as goal

abbrev pub invariant-loop-verdict : goal.invariant-loop-verdict
invariant-loop-verdict g l = AllZip Stays l.initial.roll.items l.roll.items
