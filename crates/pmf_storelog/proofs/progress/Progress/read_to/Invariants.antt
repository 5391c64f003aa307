use Rattle.std.proofs.Common.{◌-◌}
use Rattle.pmf_storelog.specs.Progress.{Reaches}
use Rattle.pmf_storelog.proofs.progress.Progress.read_to.Given as goal

abbrev pub invariant-loop-end : goal.invariant-loop-end
invariant-loop-end l = Reaches l.piece l.start l.end l.initial.self l.self

abbrev pub decreases-loop-end : goal.decreases-loop-end
decreases-loop-end l = l.to - l.end
