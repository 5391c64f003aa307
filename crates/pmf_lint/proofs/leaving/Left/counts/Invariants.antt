use Rattle.std.proofs.Common.{◌≡◌, ◌≤◌, List}
use Rattle.pmf_event.specs.{declared.event.Event.{Event}, Places.{count}}
use Rattle.pmf_lint.specs.Leaving.{AreLeft, leaves_unfenced, leaves_unwritten}
use Rattle.pmf_lint.proofs.leaving.Left.counts.Given as goal

abbrev pub invariant-loop-index : goal.invariant-loop-index
invariant-loop-index l = record {
  few : l.unwritten ≤ l.index;
  fewer : l.unfenced ≤ l.index;
  written : (es : List Event) → AreLeft es l.fn.self → l.unwritten ≡ count (leaves_unwritten es) l.index;
  fenced : (es : List Event) → AreLeft es l.fn.self → l.unfenced ≡ count (leaves_unfenced es) l.index;
}
