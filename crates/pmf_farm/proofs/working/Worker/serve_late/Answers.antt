use Rattle.std.proofs.Common.{refl, ◌∙◌, ap, Ok}
use Rattle.pmf_board.proofs.lemmas.CallLemmas.{Stays-both}
use Rattle.pmf_farm.proofs.lemmas.{WorkingLemmas.{HasWorked-left, HasWorked-served, HasWorked-stays}, TurnLemmas.{TakesAgain-later, TakesAgain-taken}}
use Rattle.pmf_farm.proofs.working.Worker.serve_late.Goals as goal

pub loop-section-preserved : goal.loop-section-preserved
loop-section-preserved g c =
    let stays = c.is_done_soon.ensures.stays in
    let marks = (c.in-Ok-Go.ensures.served (ap Ok c.in-Ok-Go.field-0-is)).marks in record {
      same = c.serve.ensures.same ∙ c.take_again.ensures.same ∙ c.is_done_soon.ensures.same ∙ c.loop-section.invariant.same;
      worked = HasWorked-served _ _ _ _ _ _ _ _ _ 8 _ (HasWorked-stays _ _ _ _ _ _ _ c.loop-section.invariant.worked c.is_done_soon.ensures.stays) c.in-Some.ensures.some (c.in-Ok-Go.ensures.served (ap Ok c.in-Ok-Go.field-0-is));
      again = TakesAgain-later _ _ _ _ marks.took marks.never_falls
          (TakesAgain-taken _ 8 _ _ _ _ _ refl c.in-Some.ensures.there c.in-Some.ensures.some (TakesAgain-later _ _ _ _ stays.took stays.never_falls c.loop-section.invariant.again));
    }

pub loop-section-preserved-then-is_done_soon : goal.loop-section-preserved-then-is_done_soon
loop-section-preserved-then-is_done_soon g c =
    let stays = c.is_done_soon.ensures.stays in record {
      same = c.is_done_soon.ensures.same ∙ c.loop-section.invariant.same;
      worked = HasWorked-stays _ _ _ _ _ _ _ c.loop-section.invariant.worked stays;
      again = TakesAgain-later _ _ _ _ stays.took stays.never_falls c.loop-section.invariant.again;
    }

pub loop-section-preserved-in_default : goal.loop-section-preserved-in_default
loop-section-preserved-in_default g c =
    let stays = Stays-both _ _ _ c.is_done_soon.ensures.stays c.in_default.ensures.none in record {
      same = c.take_again.ensures.same ∙ c.is_done_soon.ensures.same ∙ c.loop-section.invariant.same;
      worked = HasWorked-stays _ _ _ _ _ _ _ c.loop-section.invariant.worked stays;
      again = TakesAgain-later _ _ _ _ stays.took stays.never_falls c.loop-section.invariant.again;
    }

pub returns-in-Ok-Lost-clause-worked : goal.returns-in-Ok-Lost-clause-worked
returns-in-Ok-Lost-clause-worked g c =
    let left = c.in-Ok-Lost.ensures.left (λ same. cc) in
    HasWorked-left _ _ _ _ _ _ _ _ _ 8 _ (HasWorked-stays _ _ _ _ _ _ _ c.loop-section.invariant.worked c.is_done_soon.ensures.stays) c.in-Some.ensures.some (ap (λ p. p.view.took) left.0) (ap (λ p. p.view.marked) left.0) left.1

pub returns-in-Ok-Lost-clause-again : goal.returns-in-Ok-Lost-clause-again
returns-in-Ok-Lost-clause-again g c =
    let stays = c.is_done_soon.ensures.stays in
    TakesAgain-taken _ 8 _ _ _ _ _ (ap (λ p. p.view) (c.in-Ok-Lost.ensures.left (λ same. cc)).0) c.in-Some.ensures.there c.in-Some.ensures.some (TakesAgain-later _ _ _ _ stays.took stays.never_falls c.loop-section.invariant.again)

pub returns-in-Err-clause-again : goal.returns-in-Err-clause-again
returns-in-Err-clause-again g c =
    let stays = c.is_done_soon.ensures.stays in
    TakesAgain-taken _ 8 _ _ _ _ _ (ap (λ p. p.view) (c.in-Err.ensures.left (λ same. cc)).0) c.in-Some.ensures.there c.in-Some.ensures.some (TakesAgain-later _ _ _ _ stays.took stays.never_falls c.loop-section.invariant.again)
