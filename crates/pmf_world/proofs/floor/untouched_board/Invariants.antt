use Rattle.std.proofs.Common.{◌≡◌, replicate}
use Rattle.pmf_board.specs.Machine.{untouched}
use Rattle.pmf_world.proofs.floor.untouched_board.Given as goal

abbrev pub invariant-loop : goal.invariant-loop
invariant-loop l = l.board.items ≡ replicate l.counter untouched
