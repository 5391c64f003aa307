use Rattle.std.proofs.Common.{◌≡◌, ◌-◌}
use Rattle.pmf_board.{specs.Calls.{Stays}, proofs.lemmas.CallLemmas.{Known}}
use Rattle.pmf_board.proofs.board.Board.take_at.Given as goal

abbrev pub invariant-loop-word : goal.invariant-loop-word
invariant-loop-word l = record {
  same : l.pass.board ≡ l.initial.pass.board;
  stays : Stays l.initial.pass.view l.pass.view;
  known : Known l.pass.view l.section l.word;
}

abbrev pub decreases-loop-word : goal.decreases-loop-word
decreases-loop-word l = 8 - l.word
