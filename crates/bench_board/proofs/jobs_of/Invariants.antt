use Rattle.std.proofs.Common.{◌≡◌, ◌≤◌, All, length, vec_capacity}
use Rattle.bench_board.proofs.jobs_of.Given as goal

abbrev pub invariant-loop-worker : goal.invariant-loop-worker
invariant-loop-worker l = (l.first.board ≡ l.board) × (length l.jobs.items ≡ l.worker) × (l.threads ≤ vec_capacity l.jobs)
    × All (λ job. job.pass.board ≡ l.board) l.jobs.items
