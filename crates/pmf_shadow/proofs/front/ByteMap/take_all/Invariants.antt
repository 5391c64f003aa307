use Rattle.std.proofs.Common.{◌≡◌, ◌<◌, ◌≤◌, ◌+◌, ℕ, is_some, true, nat_eq}
use Rattle.std.specs.HashMap.{get}
use Rattle.pmf_shadow.specs.Bytes.{KeepsStates}
use Rattle.pmf_shadow.proofs.front.ByteMap.take_all.Given as goal

abbrev pub invariant-loop-line : goal.invariant-loop-line
invariant-loop-line l = record {
  upto : l.first < l.line → l.line ≤ l.last + 1;
  same : KeepsStates l.initial.self l.self;
  there : (line : ℕ) → l.first ≤ line → line < l.line → is_some (get nat_eq l.self.front line) ≡ true;
}
