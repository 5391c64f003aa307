use Rattle.std.proofs.Common.{◌≡◌}
use Rattle.pmf_event.specs.{Places.{count}, Store.{at}}
use Rattle.pmf_shadow.specs.Shadow.{StandsFor}
use Rattle.pmf_lint.specs.{Misread.{is_unmet}, Summing.{asserts}}
use Rattle.pmf_lint.proofs.due.fills_one.Given as goal

abbrev pub invariant-loop-index : goal.invariant-loop-index
invariant-loop-index l = record {
  place : l.place ≡ l.index;
  stands : StandsFor l.shadow (λ k. k) l.events l.index;
  none : count (is_unmet l.events) l.index ≡ count (at asserts l.events) l.index;
}
