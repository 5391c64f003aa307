use Rattle.std.proofs.Common.{◌+◌, ◌-◌}
use Rattle.pmf_cause.proofs.proposing.Seeker.back_up.Given as goal

abbrev pub decreases-loop-from : goal.decreases-loop-from
decreases-loop-from l = l.span.first + l.span.size - l.from
