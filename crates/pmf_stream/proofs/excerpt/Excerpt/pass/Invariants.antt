use Rattle.std.proofs.Common.{◌≤◌, length}
use Rattle.pmf_stream.proofs.excerpt.Excerpt.pass.Given as goal

abbrev pub invariant-loop-start : goal.invariant-loop-start
invariant-loop-start l = l.start ≤ length l.piece

abbrev pub decreases-loop-start : goal.decreases-loop-start
decreases-loop-start l = l.start
