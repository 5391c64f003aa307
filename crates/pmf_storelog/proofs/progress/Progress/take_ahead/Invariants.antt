use Rattle.pmf_storelog.specs.Progress.{Reaches}
use Rattle.pmf_storelog.proofs.progress.Progress.take_ahead.Given as goal

abbrev pub invariant-loop-stretch : goal.invariant-loop-stretch
invariant-loop-stretch l = Reaches l.fn.piece l.fn.start l.at l.fn.self l.self
