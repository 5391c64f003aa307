use Rattle.std.proofs.Common.{◌-◌, ◌≤◌}
use Rattle.pmf_cut.specs.Lost.{NoneOld}
use Rattle.pmf_cut.proofs.lost.Past.has_old.Given as goal

abbrev pub invariant-loop-byte : goal.invariant-loop-byte
invariant-loop-byte l = (l.first ≤ l.end) × (l.initial.first ≤ l.first) × NoneOld l.self l.shadow l.initial.first l.first

abbrev pub decreases-loop-byte : goal.decreases-loop-byte
decreases-loop-byte l = l.end - l.first
