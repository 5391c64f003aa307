use Rattle.std.proofs.Common.{◌≡◌, ◌-◌, ◌≤◌, ℕ, suc, length, get_or}
use Rattle.pmf_cause.specs.Cause.{fence_after}
use Rattle.pmf_cause.proofs.later.fences_behind.Given as goal

abbrev pub invariant-loop-left : goal.invariant-loop-left
invariant-loop-left l = record {
  within : l.left ≤ length l.events;
  fence : l.fence ≡ fence_after l.events l.left;
  long : length l.fences.items ≡ suc (length l.events - l.left);
  each : (k d : ℕ) → l.left ≤ k → k ≤ length l.events → get_or l.fences.items (length l.events - k) d ≡ fence_after l.events k;
}

abbrev pub decreases-loop-left : goal.decreases-loop-left
decreases-loop-left l = l.left
