use Rattle.std.proofs.Common.{◌<◌, ℕ, get_or}
use Rattle.pmf_event.specs.declared.row.Row.{Row}
use Rattle.pmf_cause.specs.Watching.{Asks}
use Rattle.pmf_cause.proofs.watch.Watch.of.Given as goal

abbrev pub invariant-loop-row : goal.invariant-loop-row
invariant-loop-row l = (k : ℕ) (r : Row) → k < l.row-index → Asks l.watch (get_or l.rows k r).finding
