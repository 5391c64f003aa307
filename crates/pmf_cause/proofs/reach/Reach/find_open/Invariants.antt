use Rattle.std.proofs.Common.{◌-◌}
use Rattle.pmf_cause.proofs.reach.Reach.find_open.Given as goal

abbrev pub decreases-loop-from : goal.decreases-loop-from
decreases-loop-from l = l.end - l.from
