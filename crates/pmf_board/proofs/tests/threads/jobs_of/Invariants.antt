use Rattle.std.proofs.Common.{◌≡◌, All}
use Rattle.pmf_board.proofs.tests.threads.jobs_of.Given as goal

abbrev pub invariant-loop-worker : goal.invariant-loop-worker
invariant-loop-worker l = (l.first.board ≡ l.board) × All (λ job. job.pass.board ≡ l.board) l.jobs.items
