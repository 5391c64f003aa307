use Rattle.std.proofs.Common.{◌≡◌, map}
use Rattle.pmf_farm.specs.Working.{HasWorked, TakesAgain}
use Rattle.pmf_farm.proofs.working.Worker.serve_late.Given as goal

abbrev pub invariant-loop-section : goal.invariant-loop-section
invariant-loop-section g l = record {
  same : l.pass.board ≡ l.initial.pass.board;
  worked : HasWorked (map (λ s. s.value) l.self.sections.now) l.self.profile l.initial.pass.view l.pass.view (g.O.Outbox.sent l.initial.outbox) (g.O.Outbox.sent l.outbox) 0;
  again : TakesAgain l.self.board.now.words l.initial.pass.view l.pass.view;
}
