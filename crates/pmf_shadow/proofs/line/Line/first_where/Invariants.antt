use Rattle.std.proofs.Common.{◌≡◌, ◌%◌, ◌/◌, ◌-◌, ◌≤◌, ◌<◌, ℕ, get_or, false}
use Rattle.pmf_shadow.specs.declared.byte.ByteState.{ByteState}
use Rattle.pmf_shadow.proofs.line.Line.first_where.Given as goal

abbrev pub invariant-loop-byte : goal.invariant-loop-byte
invariant-loop-byte g l = record {
  from : l.first ≤ l.byte;
  upto : l.first ≤ l.end → l.byte ≤ l.end;
  none : (d : ByteState) (b : ℕ) → l.first ≤ b → b < l.byte → g.T.Test.passes l.test (get_or l.self.words (b % 64 / 8) d) ≡ false;
}

abbrev pub decreases-loop-byte : goal.decreases-loop-byte
decreases-loop-byte g l = l.end - l.byte
