use Rattle.std.proofs.{Common.{arith}, lemmas.Grind.{common_steps}}
use Rattle.std.proofs.Common.{refl, sym, Ok, ◌∙◌, ap, subst}
use Rattle.std.proofs.Common.{◌≡◌, ◌+◌, ◌%◌}
use Rattle.pmf_farm.proofs.lemmas.{WorkingLemmas.{HasWorked-left, HasWorked-served, unmarked, unmarked-falls}, TurnLemmas.{TakesAgain-later, TakesAgain-taken, TakesFresh-left, TakesTo, TakesTo-later, TakesTo-taken}}
use Rattle.pmf_farm.proofs.working.Worker.serve_all.Goals as goal

pub loop-task-smaller : goal.loop-task-smaller
loop-task-smaller g c = grind (arith, common_steps, unmarked, unmarked-falls)

pub loop-task-preserved : goal.loop-task-preserved
loop-task-preserved g c =
    let taken = c.in-Some.ensures.some in
    let marks = (c.in-Ok-Go.ensures.served (ap Ok c.in-Ok-Go.field-0-is)).marks in
    let next : (c.in-Some.task.section + 1) % c.args.self.now.board.now.words ≡ (c.section.result + 1) % c.sections-count.result = ap (λ s. (s + 1) % c.args.self.now.board.now.words) (sym c.section.ensures) ∙ ap (λ n. (c.section.result + 1) % n) (sym c.sections-count.ensures.value) in record {
      same = c.serve.ensures.same ∙ c.take.ensures.same ∙ c.loop-task.invariant.same;
      worked = HasWorked-served _ _ _ _ _ _ _ _ _ _ _ c.loop-task.invariant.worked c.in-Some.ensures.some (c.in-Ok-Go.ensures.served (ap Ok c.in-Ok-Go.field-0-is));
      fresh = λ one. subst (λ n. TakesTo c.args.self.now.board.now.words c.args.self.now.number n c.args.pass.now.view c.serve.new.pass.view) next (TakesTo-later _ _ _ _ _ _ marks.took marks.never_falls
          (TakesTo-taken _ _ _ _ _ _ _ _ one c.in-Some.ensures.there taken c.in-Some.ensures.passed (c.loop-task.invariant.fresh one)));
      again = TakesAgain-later _ _ _ _ marks.took marks.never_falls (TakesAgain-taken _ _ _ _ _ _ _ refl c.in-Some.ensures.there taken c.loop-task.invariant.again);
    }

pub returns-in-Ok-Lost-clause-worked : goal.returns-in-Ok-Lost-clause-worked
returns-in-Ok-Lost-clause-worked g c =
    let left = c.in-Ok-Lost.ensures.left (λ same. cc) in
    HasWorked-left _ _ _ _ _ _ _ _ _ _ _ c.loop-task.invariant.worked c.in-Some.ensures.some (ap (λ p. p.view.took) left.0) (ap (λ p. p.view.marked) left.0) left.1

pub returns-in-Ok-Lost-clause-fresh : goal.returns-in-Ok-Lost-clause-fresh
returns-in-Ok-Lost-clause-fresh g c one =
    TakesFresh-left _ _ _ _ _ _ _ _ _ (ap (λ p. p.view) (c.in-Ok-Lost.ensures.left (λ same. cc)).0) one c.in-Some.ensures.there c.in-Some.ensures.some c.in-Some.ensures.passed (c.loop-task.invariant.fresh one)

pub returns-in-Err-clause-fresh : goal.returns-in-Err-clause-fresh
returns-in-Err-clause-fresh g c one =
    TakesFresh-left _ _ _ _ _ _ _ _ _ (ap (λ p. p.view) (c.in-Err.ensures.left (λ same. cc)).0) one c.in-Some.ensures.there c.in-Some.ensures.some c.in-Some.ensures.passed (c.loop-task.invariant.fresh one)

pub returns-in-Ok-Lost-clause-again : goal.returns-in-Ok-Lost-clause-again
returns-in-Ok-Lost-clause-again g c = TakesAgain-taken _ _ _ _ _ _ _ (ap (λ p. p.view) (c.in-Ok-Lost.ensures.left (λ same. cc)).0) c.in-Some.ensures.there c.in-Some.ensures.some c.loop-task.invariant.again

pub returns-in-Err-clause-again : goal.returns-in-Err-clause-again
returns-in-Err-clause-again g c = TakesAgain-taken _ _ _ _ _ _ _ (ap (λ p. p.view) (c.in-Err.ensures.left (λ same. cc)).0) c.in-Some.ensures.there c.in-Some.ensures.some c.loop-task.invariant.again

pub returns-clause-again : goal.returns-clause-again
returns-clause-again g c = TakesAgain-later _ _ _ _ c.in_default.ensures.none.took c.in_default.ensures.none.never_falls c.loop-task.invariant.again
