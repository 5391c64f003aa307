use Rattle.std.proofs.Common.{◌≡◌, ℕ, true, take}
use Rattle.std.specs.List.{list_any}
use Rattle.pmf_runs.specs.Runs.{state_at}
use Rattle.pmf_cause.specs.Cure.{passes_at}
use Rattle.pmf_cause.proofs.trial.good_places.Given as goal

abbrev pub invariant-loop-row : goal.invariant-loop-row
invariant-loop-row l = (p : ℕ) → state_at l.set p ≡ true → list_any (passes_at l.places p) (take l.row-index l.rows) ≡ true
