use Rattle.std.proofs.Common.{◌≡◌}
use Rattle.pmf_board.proofs.tests.assert_again.Given as goal

abbrev pub invariant-loop-number : goal.invariant-loop-number
invariant-loop-number g l = l.pass.board ≡ l.board
