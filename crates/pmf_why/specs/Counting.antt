-- How many rows pass and fail. Defined here.
use Rattle.std.specs.Prelude.{List, count_by}
use Rattle.pmf_event.specs.declared.row.Row.{Row}
use Rattle.pmf_cause.specs.Cure.{fails}
use Rattle.pmf_why.specs.{declared.plan.Counts.{Counts}, Reasons.{passes}}

-- how many of the rows count as pass, and as fail
abbrev pub counts_in : List Row → Counts
counts_in rows = record { pass = count_by (λ row. passes row) rows; fail = count_by (λ row. fails row) rows }
