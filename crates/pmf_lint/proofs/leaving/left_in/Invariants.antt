use Rattle.std.proofs.Common.{◌≡◌, ◌≤◌, ◌-◌, List, Some, length}
use Rattle.pmf_event.specs.{declared.event.Event.{Event}, declared.event.Event.TheVariants.{Store}, Store.{event_at}}
use Rattle.pmf_shadow.specs.Shadow.{StandsFor}
use Rattle.pmf_lint.specs.Leaving.{is_left, is_left_unwritten, some_below}
use Rattle.pmf_lint.proofs.leaving.left_in.Given as goal

abbrev pub invariant-loop-first : goal.invariant-loop-first
invariant-loop-first l = record {
  within : l.first ≤ l.end;
  so_far : (es : List Event) → StandsFor l.shadow (λ k. k) es (length es) → event_at es l.place ≡ Some (Store l.fn.span)
      → (l.left ≡ some_below (is_left es l.place) l.first) × (l.unwritten ≡ some_below (is_left_unwritten es l.place) l.first);
}

abbrev pub decreases-loop-first : goal.decreases-loop-first
decreases-loop-first l = l.end - l.first
