use Rattle.std.proofs.Common.{◌-◌, ◌≤◌}
use Rattle.pmf_cut.proofs.head.push_over.Given as goal

abbrev pub invariant-loop-first : goal.invariant-loop-first
invariant-loop-first l = 0 ≤ l.first

abbrev pub decreases-loop-first : goal.decreases-loop-first
decreases-loop-first l = l.bytes.end - l.first
