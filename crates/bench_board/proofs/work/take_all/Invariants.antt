use Rattle.std.proofs.Common.{◌≡◌}
use Rattle.bench_board.proofs.work.take_all.Given as goal

abbrev pub invariant-loop-taken : goal.invariant-loop-taken
invariant-loop-taken l = l.pass.board ≡ l.board
