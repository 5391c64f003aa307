use Rattle.std.proofs.Common.{◌≡◌, ◌≤◌, ◌-◌, List, length}
use Rattle.pmf_event.specs.declared.event.Event.{Event}
use Rattle.pmf_shadow.specs.Shadow.{StandsFor}
use Rattle.pmf_lint.specs.Leaving.{AreLeftBelow}
use Rattle.pmf_lint.proofs.leaving.Left.by_runs.Given as goal

abbrev pub invariant-loop-first : goal.invariant-loop-first
invariant-loop-first l = record {
  within : l.first ≤ 9223372036854775808;
  left : (es : List Event) → length es ≡ l.fn.places → StandsFor l.fn.shadow (λ k. k) es l.fn.places → AreLeftBelow es l.first l.left;
}

abbrev pub decreases-loop-first : goal.decreases-loop-first
decreases-loop-first l = 9223372036854775808 - l.first
