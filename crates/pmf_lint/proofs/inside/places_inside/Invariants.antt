use Rattle.std.proofs.Common.{◌≡◌, ◌≤◌, ◌<◌, ℕ, suc, Bool, length, get_or}
use Rattle.pmf_event.specs.Transactions.{depth_at, in_scope}
use Rattle.pmf_lint.specs.Covering.{is_inside}
use Rattle.pmf_lint.proofs.inside.places_inside.Given as goal

abbrev pub invariant-loop-index : goal.invariant-loop-index
invariant-loop-index l = record {
  few : l.depth ≤ l.index;
  depth : l.depth ≡ depth_at l.events l.index;
  scope : l.scope ≡ in_scope l.events l.index;
  long : length l.inside.items ≡ l.index;
  each : (k : ℕ) (d : Bool) → k < l.index → get_or l.inside.items k d ≡ is_inside l.events (suc k);
}
