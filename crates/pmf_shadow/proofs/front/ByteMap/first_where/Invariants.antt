use Rattle.std.proofs.Common.{◌≡◌, ◌-◌, ◌≤◌, ◌<◌, ℕ, false}
use Rattle.pmf_shadow.specs.Bytes.{passing}
use Rattle.pmf_shadow.proofs.front.ByteMap.first_where.Given as goal

abbrev pub invariant-loop-at : goal.invariant-loop-at
invariant-loop-at g l = record {
  from : l.first ≤ l.at;
  upto : l.first ≤ l.end → l.at ≤ l.end;
  none : (b : ℕ) → l.first ≤ b → b < l.at → passing (g.T.Test.passes l.test) l.self b ≡ false;
}

abbrev pub decreases-loop-at : goal.decreases-loop-at
decreases-loop-at g l = l.end - l.at
