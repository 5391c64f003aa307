use Rattle.std.proofs.Common.{◌≡◌, ℕ, ◌-◌, ◌<◌, ◌≤◌, get_or}
use Rattle.pmf_shadow.specs.declared.byte.ByteState.{ByteState}
use Rattle.pmf_shadow.proofs.line.Line.run_end.Given as goal

abbrev pub invariant-loop-upto : goal.invariant-loop-upto
invariant-loop-upto l = record {
  some : l.word < l.upto;
  upto : l.upto ≤ 8;
  same : (k : ℕ) (d : ByteState) → l.word ≤ k → k < l.upto → get_or l.self.words k d ≡ get_or l.self.words l.word d;
}

abbrev pub decreases-loop-upto : goal.decreases-loop-upto
decreases-loop-upto l = 8 - l.upto
