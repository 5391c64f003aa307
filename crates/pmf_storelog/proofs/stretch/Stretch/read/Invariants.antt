use Rattle.std.proofs.Common.{◌-◌, ◌≤◌, length}
use Rattle.pmf_storelog.specs.{Ahead.{IsClosed, IsPlain, between}, Separators.{ended_records}}
use Rattle.pmf_storelog.proofs.stretch.Stretch.read.Given as goal

abbrev pub invariant-loop-end : goal.invariant-loop-end
invariant-loop-end l = record {
  rises : l.from ≤ l.end;
  within : l.end ≤ length l.piece;
  few : l.plain.records ≤ l.end - l.from;
  closed : IsClosed (between l.piece l.from l.end);
  plain : IsPlain (ended_records (between l.piece l.from l.end)) l.plain;
}

abbrev pub decreases-loop-end : goal.decreases-loop-end
decreases-loop-end l = l.to - l.end
