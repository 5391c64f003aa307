use Rattle.std.proofs.Common.{◌≡◌, ◌<◌, ◌≤◌, ◌+◌, ℕ, None, nat_eq}
use Rattle.std.specs.HashMap.{get}
use Rattle.pmf_shadow.specs.Bytes.{KeepsStates}
use Rattle.pmf_shadow.proofs.front.ByteMap.spill_lines.Given as goal

abbrev pub invariant-loop-number : goal.invariant-loop-number
invariant-loop-number l = record {
  upto : l.first < l.number → l.number ≤ l.last + 1;
  same : KeepsStates l.initial.self l.self;
  behind : (line : ℕ) → l.first ≤ line → line < l.number → get nat_eq l.self.front line ≡ None;
}
