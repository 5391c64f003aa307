use Rattle.std.proofs.Common.{◌-◌}
use Rattle.pmf_event.specs.declared.span.TheConstants.{ADDRESS_LIMIT}
use Rattle.pmf_cause.proofs.reach.Reach.find_open_of_scope.Given as goal

abbrev pub decreases-loop-from : goal.decreases-loop-from
decreases-loop-from l = ADDRESS_LIMIT - l.from
