use Rattle.std.proofs.Common.{◌≡◌}
use Rattle.pmf_board.specs.Calls.{Stays}
use Rattle.pmf_farm.proofs.working.Worker.is_done_soon.Given as goal

abbrev pub invariant-loop : goal.invariant-loop
invariant-loop g l = (l.pass.board ≡ l.initial.pass.board) × Stays l.initial.pass.view l.pass.view
