use Rattle.std.{proofs.Common.{length, ◌-◌, ◌+◌, ◌≡◌, ◌≤◌, drop}, specs.List.{prefix_len}}
use Rattle.pmf_storelog.specs.Numbers.{is_digit_in}
use Rattle.pmf_storelog.proofs.number.count_digits.Given as goal

abbrev pub invariant-loop-count : goal.invariant-loop-count
invariant-loop-count l = (l.count ≤ length l.text) × (l.count + prefix_len (is_digit_in 10) (drop l.count l.text) ≡ prefix_len (is_digit_in 10) l.text)

abbrev pub decreases-loop-count : goal.decreases-loop-count
decreases-loop-count l = length l.text - l.count
