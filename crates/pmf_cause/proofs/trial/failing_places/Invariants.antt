use Rattle.std.proofs.Common.{◌≡◌, ℕ, take}
use Rattle.std.specs.List.{list_any}
use Rattle.pmf_runs.specs.Runs.{state_at}
use Rattle.pmf_cause.specs.Cure.{fails_at}
use Rattle.pmf_cause.proofs.trial.failing_places.Given as goal

abbrev pub invariant-loop-row : goal.invariant-loop-row
invariant-loop-row l = (p : ℕ) → state_at l.set p ≡ list_any (fails_at p) (take l.row-index l.rows)
