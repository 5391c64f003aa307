use Rattle.std.proofs.Common.{◌≡◌, ◌<◌, ℕ, suc, Bool, length, slice_index_or}
use Rattle.pmf_shadow.specs.Shadow.{StandsFor}
use Rattle.pmf_lint.specs.Leaving.{is_left, is_left_unwritten, some_below}
use Rattle.pmf_lint.proofs.leaving.Left.by_stores.Given as goal

abbrev pub invariant-loop-index : goal.invariant-loop-index
invariant-loop-index l = record {
  place : l.place ≡ l.index;
  long : length l.all.items ≡ l.index;
  long_too : length l.unwritten.items ≡ l.index;
  each : StandsFor l.shadow (λ k. k) l.events (length l.events) → (k : ℕ) (d : Bool) → k < l.index → slice_index_or l.all.items k d ≡ some_below (is_left l.events (suc k)) 9223372036854775808;
  each_too : StandsFor l.shadow (λ k. k) l.events (length l.events) → (k : ℕ) (d : Bool) → k < l.index → slice_index_or l.unwritten.items k d ≡ some_below (is_left_unwritten l.events (suc k)) 9223372036854775808;
}
