use Rattle.std.proofs.Common.{◌≡◌, map}
use Rattle.pmf_farm.{specs.Working.{HasWorked, TakesAgain, limit_of}, proofs.lemmas.WorkingLemmas.{unmarked}, proofs.lemmas.TurnLemmas.{TakesTo}}
use Rattle.pmf_farm.proofs.working.Worker.serve_all.Given as goal

abbrev pub invariant-loop-task : goal.invariant-loop-task
invariant-loop-task g l = record {
  same : l.pass.board ≡ l.initial.pass.board;
  worked : HasWorked (map (λ s. s.value) l.self.sections.now) l.self.profile l.initial.pass.view l.pass.view (g.O.Outbox.sent l.initial.outbox) (g.O.Outbox.sent l.outbox) 0;
  fresh : limit_of l.again ≡ 1 → TakesTo l.self.board.now.words l.self.number l.start l.initial.pass.view l.pass.view;
  again : TakesAgain l.self.board.now.words l.initial.pass.view l.pass.view;
}

abbrev pub decreases-loop-task : goal.decreases-loop-task
decreases-loop-task g l = unmarked l.self.board.now.words l.pass.view.marked
