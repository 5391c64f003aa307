use Rattle.std.proofs.Common.{◌+◌, ◌-◌}
use Rattle.pmf_cause.proofs.reach.Reach.first_of_last_stores.Given as goal

abbrev pub decreases-loop-from : goal.decreases-loop-from
decreases-loop-from l = l.span.first + l.span.size - l.from
