use Rattle.std.{proofs.Common.{length, ◌+◌, ◌≡◌, ◌≤◌, take}, specs.List.{suffix_len}}
use Rattle.pmf_storelog.specs.Separators.{is_blank}
use Rattle.pmf_storelog.proofs.trimming.trim_end.Given as goal

abbrev pub invariant-loop-end : goal.invariant-loop-end
invariant-loop-end l = (l.end ≤ length l.part) × (l.end + suffix_len is_blank l.part ≡ length l.part + suffix_len is_blank (take l.end l.part))

abbrev pub decreases-loop-end : goal.decreases-loop-end
decreases-loop-end l = l.end
