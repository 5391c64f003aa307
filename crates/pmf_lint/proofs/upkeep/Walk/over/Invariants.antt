use Rattle.std.proofs.Common.{◌≡◌}
use Rattle.pmf_lint.specs.Upkeep.{HasWalkedOver}
use Rattle.pmf_lint.proofs.upkeep.Walk.over.Given as goal

abbrev pub invariant-loop-index : goal.invariant-loop-index
invariant-loop-index l = record { place : l.place ≡ l.index; walked : HasWalkedOver l.walk l.events l.index }
