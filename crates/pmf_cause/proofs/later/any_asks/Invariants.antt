use Rattle.std.proofs.Common.{◌≡◌, ◌<◌, ℕ, false, get_or}
use Rattle.pmf_event.specs.declared.row.Row.{Row}
use Rattle.pmf_cause.specs.Later.{asks_byte}
use Rattle.pmf_cause.proofs.later.any_asks.Given as goal

abbrev pub invariant-loop-row : goal.invariant-loop-row
invariant-loop-row l = (k : ℕ) (r : Row) → k < l.row-index → asks_byte (get_or l.rows k r).finding ≡ false
