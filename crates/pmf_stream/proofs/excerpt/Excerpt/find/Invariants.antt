use Rattle.std.proofs.Common.{◌-◌, ◌≤◌, length}
use Rattle.pmf_stream.proofs.excerpt.Excerpt.find.Given as goal

abbrev pub invariant-loop-length : goal.invariant-loop-length
invariant-loop-length l = l.start ≤ length l.piece

abbrev pub decreases-loop-length : goal.decreases-loop-length
decreases-loop-length l = length l.piece - l.start
