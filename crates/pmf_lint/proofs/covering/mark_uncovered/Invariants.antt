use Rattle.std.proofs.Common.{◌≡◌, ◌≤◌, ◌<◌, ℕ, suc, Bool, length, slice_index_or}
use Rattle.pmf_lint.specs.Covering.{is_inside, is_uncovered, StandsAfter}
use Rattle.pmf_lint.proofs.covering.mark_uncovered.Given as goal

abbrev pub invariant-loop-left : goal.invariant-loop-left
invariant-loop-left l = record {
  within : l.left ≤ length l.events;
  long : length l.marks.items ≡ length l.events;
  later : StandsAfter l.later l.events l.left;
  inside : (k : ℕ) (d : Bool) → k < l.left → slice_index_or l.marks.items k d ≡ is_inside l.events (suc k);
  marked : (k : ℕ) (d : Bool) → l.left ≤ k → k < length l.events → slice_index_or l.marks.items k d ≡ is_uncovered l.events (suc k);
}

abbrev pub decreases-loop-left : goal.decreases-loop-left
decreases-loop-left l = l.left
