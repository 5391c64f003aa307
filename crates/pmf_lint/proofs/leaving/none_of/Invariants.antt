use Rattle.std.proofs.Common.{◌≡◌, ◌<◌, ℕ, Bool, false, length, slice_index_or}
use Rattle.pmf_lint.proofs.leaving.none_of.Given as goal

abbrev pub invariant-loop : goal.invariant-loop
invariant-loop l = record {
  long : length l.marks.items ≡ l.counter;
  none : (k : ℕ) (d : Bool) → k < l.counter → slice_index_or l.marks.items k d ≡ false;
}
