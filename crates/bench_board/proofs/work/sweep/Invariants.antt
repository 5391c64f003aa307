use Rattle.std.proofs.Common.{◌≡◌}
use Rattle.bench_board.proofs.work.sweep.Given as goal

abbrev pub invariant-loop-start : goal.invariant-loop-start
invariant-loop-start l = l.pass.board ≡ l.board
