use Rattle.std.proofs.Common.{◌≡◌, ◌≤◌, ◌-◌, length}
use Rattle.pmf_merge.specs.Ahead.{IsAhead}
use Rattle.pmf_merge.proofs.ahead.Ahead.read.Given as goal

abbrev pub invariant-loop-block : goal.invariant-loop-block
invariant-loop-block g l = record { ahead : IsAhead l.piece l.self; by : l.self.profile ≡ l.profile; within : l.at ≤ length l.piece }

abbrev pub decreases-loop-block : goal.decreases-loop-block
decreases-loop-block g l = length l.piece - l.at
