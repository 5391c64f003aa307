use Rattle.std.proofs.Common.{◌≡◌, replicate}
use Rattle.pmf_world.specs.Floors.{idle}
use Rattle.pmf_world.proofs.floor.idle_workers.Given as goal

abbrev pub invariant-loop : goal.invariant-loop
invariant-loop l = l.workers.items ≡ replicate l.counter idle
