use Rattle.std.proofs.Common.{length}
use Rattle.pmf_cause.proofs.ChangedLemmas.{Putting}
use Rattle.pmf_cause.proofs.changing.put_here.Given as goal

abbrev pub invariant-loop-edit : goal.invariant-loop-edit
invariant-loop-edit l = Putting l.place l.initial.made l.made l.edits l.rest l.left_out

abbrev pub decreases-loop-edit : goal.decreases-loop-edit
decreases-loop-edit l = length l.rest
