use Rattle.std.proofs.Common.{◌-◌, All}
use Rattle.pmf_storelog.specs.Ahead.{IsStretchOf}
use Rattle.pmf_storelog.proofs.ahead.Ahead.read.Given as goal

abbrev pub invariant-loop-start : goal.invariant-loop-start
invariant-loop-start l = All (IsStretchOf l.piece) l.self.stretches.items

abbrev pub decreases-loop-start : goal.decreases-loop-start
decreases-loop-start l = l.to - l.start
