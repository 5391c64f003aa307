use Rattle.pmf_storelog.specs.Progress.{Reaches}
use Rattle.pmf_storelog.proofs.progress.Progress.read_with.Given as goal

abbrev pub invariant-loop-part : goal.invariant-loop-part
invariant-loop-part l = Reaches l.fn.piece 0 l.start l.fn.self l.self
