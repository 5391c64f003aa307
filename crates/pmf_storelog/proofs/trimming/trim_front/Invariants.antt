use Rattle.std.{proofs.Common.{length, ◌-◌, ◌+◌, ◌≡◌, ◌≤◌, drop}, specs.List.{prefix_len}}
use Rattle.pmf_storelog.specs.Separators.{is_blank}
use Rattle.pmf_storelog.proofs.trimming.trim_front.Given as goal

abbrev pub invariant-loop-start : goal.invariant-loop-start
invariant-loop-start l = (l.start ≤ length l.part) × (l.start + prefix_len is_blank (drop l.start l.part) ≡ prefix_len is_blank l.part)

abbrev pub decreases-loop-start : goal.decreases-loop-start
decreases-loop-start l = length l.part - l.start
