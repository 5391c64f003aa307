use Rattle.std.proofs.Common.{◌<◌, ◌≤◌, ◌-◌, length}
use Rattle.pmf_stream.proofs.joining.middle_of.Given as goal

abbrev pub invariant-loop-front : goal.invariant-loop-front
invariant-loop-front l = (0 < l.front) × (l.front ≤ l.back) × (l.back < length l.texts)

abbrev pub decreases-loop-front : goal.decreases-loop-front
decreases-loop-front l = l.back - l.front
