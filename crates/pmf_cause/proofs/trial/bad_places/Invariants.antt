use Rattle.std.proofs.Common.{◌≡◌, ℕ, take}
use Rattle.std.specs.List.{list_any}
use Rattle.pmf_runs.specs.Runs.{state_at}
use Rattle.pmf_cause.specs.Cure.{bad_at}
use Rattle.pmf_cause.proofs.trial.bad_places.Given as goal

abbrev pub invariant-loop-row : goal.invariant-loop-row
invariant-loop-row l = (p : ℕ) → state_at l.set p ≡ list_any (bad_at l.places p) (take l.row-index l.rows)
