use Rattle.std.proofs.Common.{◌≡◌, ◌%◌, ◌/◌, ◌-◌, ◌≤◌, ◌<◌, get_or}
use Rattle.pmf_event.specs.Ranges.{least_from}
use Rattle.pmf_shadow.specs.declared.byte.ByteState.{ByteState}
use Rattle.pmf_shadow.proofs.line.Line.least_key.Given as goal

abbrev pub invariant-loop-byte : goal.invariant-loop-byte
invariant-loop-byte g l = record {
  from : l.first ≤ l.byte;
  upto : l.first ≤ l.end → l.byte ≤ l.end;
  none : l.end < l.first → l.byte ≡ l.first;
  least : (d : ByteState) → l.least ≡ least_from (λ b. g.K.Key.key l.key (get_or l.self.words (b % 64 / 8) d)) l.first (l.byte - l.first);
}

abbrev pub decreases-loop-byte : goal.decreases-loop-byte
decreases-loop-byte g l = l.end - l.byte
