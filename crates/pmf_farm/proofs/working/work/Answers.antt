use Rattle.std.proofs.Common.{refl, ap, Ok}
use Rattle.pmf_farm.proofs.lemmas.{WorkingLemmas.{HasWorked_all, HasWorked_then}, TurnLemmas.{TakesAgain_none, TakesInTurn-from}}
use Rattle.pmf_farm.proofs.working.work.Goals as goal

pub returns-clause-worked : goal.returns-clause-worked
returns-clause-worked g c =
    HasWorked_then _ _ _ _ _ _ _ _ _
    (HasWorked_then _ _ _ _ _ _ _ _ _ (HasWorked_all _ _ _ _ _ _ _ c.in-Ok-All.field-0-is c.in-Ok-All.ensures.worked)
    (HasWorked_all _ _ _ _ _ _ _ c.in-Ok-All-serve_late.field-0-is c.in-Ok-All-serve_late.ensures.worked))
    c.serve_all-2.ensures.worked

pub returns-clause-turns : goal.returns-clause-turns
returns-clause-turns g c =
    TakesInTurn-from _ _ _ _ _ _ (c.serve_all.ensures.fresh refl) (c.in-Ok-All.ensures.all (ap Ok c.in-Ok-All.field-0-is)) c.serve_late.ensures.again c.serve_all-2.ensures.again

pub returns-in_default-serve_late-clause-turns : goal.returns-in_default-serve_late-clause-turns
returns-in_default-serve_late-clause-turns g c =
    TakesInTurn-from _ _ _ _ _ _ (c.serve_all.ensures.fresh refl) (c.in-Ok-All.ensures.all (ap Ok c.in-Ok-All.field-0-is)) c.serve_late.ensures.again (TakesAgain_none _ _)

pub returns-in_default-serve_late-2-clause-worked : goal.returns-in_default-serve_late-2-clause-worked
returns-in_default-serve_late-2-clause-worked g c = HasWorked_then _ _ _ _ _ _ _ _ _ (HasWorked_all _ _ _ _ _ _ _ c.in-Ok-All.field-0-is c.in-Ok-All.ensures.worked) c.serve_late.ensures.worked

pub returns-in_default-serve_late-2-clause-turns : goal.returns-in_default-serve_late-2-clause-turns
returns-in_default-serve_late-2-clause-turns g c =
    TakesInTurn-from _ _ _ _ _ _ (c.serve_all.ensures.fresh refl) (c.in-Ok-All.ensures.all (ap Ok c.in-Ok-All.field-0-is)) c.serve_late.ensures.again (TakesAgain_none _ _)
