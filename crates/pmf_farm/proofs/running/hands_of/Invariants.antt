use Rattle.std.proofs.Common.{◌≡◌, ◌<◌, All, AllPairs}
use Rattle.pmf_farm.proofs.running.hands_of.Given as goal

abbrev pub invariant-loop-number : goal.invariant-loop-number
invariant-loop-number l = record {
  first : l.first.board ≡ l.board;
  own : All (λ h. h.pass.board ≡ l.board) l.hands.items;
  numbers : AllPairs (λ a b. a.number < b.number) l.hands.items;
  few : All (λ h. h.number < l.number) l.hands.items;
}
