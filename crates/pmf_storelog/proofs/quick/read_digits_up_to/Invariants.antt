use Rattle.std.{proofs.Common.{◌-◌, ◌≡◌, ◌≤◌, take}, specs.Str.Parse.{AllDigits, digits_value}}
use Rattle.pmf_storelog.proofs.quick.read_digits_up_to.Given as goal

abbrev pub invariant-loop-count : goal.invariant-loop-count
invariant-loop-count l = record { within : l.count ≤ l.most; digits : AllDigits 16 (take l.count l.text); value_is : l.value ≡ digits_value 16 (take l.count l.text) }

abbrev pub decreases-loop-count : goal.decreases-loop-count
decreases-loop-count l = l.most - l.count
