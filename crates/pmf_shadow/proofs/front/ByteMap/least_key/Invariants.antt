use Rattle.std.proofs.Common.{◌≡◌, ◌-◌, ◌≤◌, ◌<◌}
use Rattle.pmf_event.specs.Ranges.{least_from}
use Rattle.pmf_shadow.specs.Bytes.{keyed}
use Rattle.pmf_shadow.proofs.front.ByteMap.least_key.Given as goal

abbrev pub invariant-loop-at : goal.invariant-loop-at
invariant-loop-at g l = record {
  from : l.first ≤ l.at;
  upto : l.first ≤ l.end → l.at ≤ l.end;
  none : l.end < l.first → l.at ≡ l.first;
  least : l.least ≡ least_from (keyed (g.K.Key.key l.key) l.self) l.first (l.at - l.first);
}

abbrev pub decreases-loop-at : goal.decreases-loop-at
decreases-loop-at g l = l.end - l.at
