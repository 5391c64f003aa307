use Rattle.std.proofs.Common.{◌≡◌}
use Rattle.pmf_board.proofs.tests.work.Given as goal

abbrev pub invariant-loop : goal.invariant-loop
invariant-loop l = l.pass.board ≡ l.board
