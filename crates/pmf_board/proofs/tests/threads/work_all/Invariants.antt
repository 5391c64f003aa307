use Rattle.std.proofs.Common.{◌≡◌, All}
use Rattle.pmf_board.proofs.tests.threads.work_all.Given as goal

abbrev pub invariant-loop-pass : goal.invariant-loop-pass
invariant-loop-pass g l = (l.first.board ≡ l.board) × All (λ end. end.0.board ≡ l.board) l.ended.items

abbrev pub decreases-loop-pass : goal.decreases-loop-pass
decreases-loop-pass g l = l.ended.len
