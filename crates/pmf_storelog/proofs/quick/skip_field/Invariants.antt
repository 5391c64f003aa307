use Rattle.std.{proofs.Common.{length, ◌-◌, ◌≤◌, take}, specs.Str.Parse.{AllDigits}}
use Rattle.pmf_storelog.proofs.quick.skip_field.Given as goal

abbrev pub invariant-loop-end : goal.invariant-loop-end
invariant-loop-end l = (l.end ≤ length l.text) × AllDigits 36 (take l.end l.text)

abbrev pub decreases-loop-end : goal.decreases-loop-end
decreases-loop-end l = length l.text - l.end
