use Rattle.std.proofs.Common.{◌≡◌, [], replicate}
use Rattle.pmf_world.proofs.world.empty_ledgers.Given as goal

abbrev pub invariant-loop : goal.invariant-loop
invariant-loop l = l.ledgers.items ≡ replicate l.counter (record { profile = l.profile; sections = [] })
