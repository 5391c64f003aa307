use Rattle.std.proofs.Common.{◌-◌, ◌≤◌}
use Rattle.pmf_cut.proofs.head.open_of.Given as goal

abbrev pub invariant-loop-first : goal.invariant-loop-first
invariant-loop-first l = l.first ≤ 9223372036854775808

abbrev pub decreases-loop-first : goal.decreases-loop-first
decreases-loop-first l = 9223372036854775808 - l.first
