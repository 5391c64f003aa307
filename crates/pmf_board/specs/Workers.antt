-- How many workers a board is for. Defined here.
use Rattle.std.specs.Prelude.{ℕ, ◌<◌, ◌≤◌}
use Rattle.pmf_board.specs.declared.board.TheConstants.{MOST_WORKERS}

-- 1 to 64 workers
abbrev pub AreWorkers : ℕ → Type 0
AreWorkers workers = (0 < workers) × (workers ≤ MOST_WORKERS)
