use Rattle.std.proofs.Common.{◌≡◌, ◌<◌, ℕ, suc, Bool, List, length, slice_index_or}
use Rattle.pmf_event.specs.declared.event.Event.{Event}
use Rattle.pmf_lint.specs.Leaving.{AreLeft, leaves_unfenced}
use Rattle.pmf_lint.proofs.leaving.Left.all_unfenced.Given as goal

abbrev pub invariant-loop-index : goal.invariant-loop-index
invariant-loop-index l = record {
  long : length l.marks.items ≡ l.index;
  each : (es : List Event) → AreLeft es l.fn.self → (k : ℕ) (d : Bool) → k < l.index → slice_index_or l.marks.items k d ≡ leaves_unfenced es (suc k);
}
