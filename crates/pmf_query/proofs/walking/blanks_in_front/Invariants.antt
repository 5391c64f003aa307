use Rattle.std.{proofs.Common.{length, ◌-◌, ◌+◌, ◌≡◌, ◌≤◌, drop}, specs.List.{prefix_len}}
use Rattle.pmf_storelog.specs.Separators.{is_blank}
use Rattle.pmf_query.proofs.walking.blanks_in_front.Given as goal

abbrev pub invariant-loop-count : goal.invariant-loop-count
invariant-loop-count l = (l.count ≤ length l.part) × (l.count + prefix_len is_blank (drop l.count l.part) ≡ prefix_len is_blank l.part)

abbrev pub decreases-loop-count : goal.decreases-loop-count
decreases-loop-count l = length l.part - l.count
