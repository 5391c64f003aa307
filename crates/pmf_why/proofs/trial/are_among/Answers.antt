use Rattle.std.proofs.{Common.{◌∷◌, ◌++◌, [], All, Contains, take, take_all, ap, sym, subst, ◌∙◌, arith}, lemmas.List.{take_more}, lemmas.List.Elements.{All-push}}
use Rattle.pmf_cause.specs.declared.edit.Edit.{Edit}
use Rattle.pmf_why.proofs.trial.are_among.Goals as goal

pub loop-edit-preserved : goal.loop-edit-preserved
loop-edit-preserved c =
    let longer = take_more c.args.edits.now c.loop-edit.edit-index c.edit-item.result c.loop-edit-test.true
    ∙ ap (λ (e : Edit). take c.loop-edit.edit-index c.args.edits.now ++ e ∷ []) (sym c.edit-item.is) in
    subst (All (λ (e : Edit). Contains c.args.all.now e)) (sym longer)
    (All-push (λ (e : Edit). Contains c.args.all.now e) (take c.loop-edit.edit-index c.args.edits.now) c.edit-item.result c.loop-edit.invariant (c.is_among.ensures c.if-not-is_among.false))

pub returns : goal.returns
returns c = λ so.
    subst (All (λ (e : Edit). Contains c.args.all.now e)) (take_all c.loop-edit.edit-index c.args.edits.now (omega (arith, c.loop-edit-test.false))) c.loop-edit.invariant
