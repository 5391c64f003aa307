use Rattle.std.proofs.Common.{◌-◌}
use Rattle.pmf_stream.proofs.joining.+join_up_to.Given as goal

abbrev pub decreases-join_up_to : goal.decreases-join_up_to
decreases-join_up_to l = l.end - l.first
