use Rattle.std.proofs.Common.{◌≡◌, ℕ, ◌-◌, ◌≤◌, is_some}
use Rattle.pmf_shadow.specs.Bytes.{ChangesFront, line_at}
use Rattle.pmf_shadow.proofs.front.ByteMap.change_front.Given as goal

abbrev pub invariant-loop-line : goal.invariant-loop-line
invariant-loop-line g l = record {
  from : l.first ≤ l.line;
  upto : l.line ≤ l.end;
  front : (b : ℕ) → is_some (line_at l.self b) ≡ is_some (line_at l.initial.self b);
  changes : ChangesFront l.first l.line (g.C.Change.changed l.change) l.initial.self l.self;
}

abbrev pub decreases-loop-line : goal.decreases-loop-line
decreases-loop-line g l = l.end - l.line
