use Rattle.std.proofs.Common.{◌≡◌, ◌-◌, ◌≤◌, ◌<◌, ℕ}
use Rattle.pmf_board.specs.{Calls.{Stays}, Views.{HasSeenClosed}}
use Rattle.pmf_board.proofs.board.Board.take_between.Given as goal

abbrev pub invariant-loop-section : goal.invariant-loop-section
invariant-loop-section l = record {
  same : l.pass.board ≡ l.initial.pass.board;
  stays : Stays l.initial.pass.view l.pass.view;
  from : l.first ≤ l.section;
  closed : (s : ℕ) → l.first ≤ s → s < l.section → HasSeenClosed l.limit l.pass.view s;
}

abbrev pub decreases-loop-section : goal.decreases-loop-section
decreases-loop-section l = l.end - l.section
