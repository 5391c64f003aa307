use Rattle.std.proofs.Common.{◌≡◌, ◌%◌, ◌/◌, ◌-◌, ◌≤◌}
use Rattle.pmf_shadow.specs.Bytes.{AreInFront, ChangesBetween}
use Rattle.pmf_shadow.proofs.front.ByteMap.change_words.Given as goal

abbrev pub invariant-loop-at : goal.invariant-loop-at
invariant-loop-at g l = record {
  from : l.first ≤ l.at;
  upto : l.at ≤ l.end;
  word : l.at % 8 ≡ 0;
  there : AreInFront l.self (l.first / 64) ((l.end - 1) / 64);
  changes : ChangesBetween l.first l.at (g.C.Change.changed l.change) l.initial.self l.self;
}

abbrev pub decreases-loop-at : goal.decreases-loop-at
decreases-loop-at g l = l.end - l.at
