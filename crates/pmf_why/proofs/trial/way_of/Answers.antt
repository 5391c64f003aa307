use Rattle.std.{proofs.Common.{◌≡◌, List, [], All, Contains, subst}, specs.Option.{MatchOption}}
use Rattle.pmf_cause.specs.{declared.edit.Edit.{Edit}, Cure.{IsTrial}}
use Rattle.pmf_why.proofs.trial.way_of.Goals as goal

pub returns-then-are_among : goal.returns-then-are_among
returns-then-are_among c =
    let checked = c.args.bad.now.taken.verdict.now in
    let plan = c.args.bad.now.taken.plan.now.edits.items in
    let trial = subst (λ o. MatchOption o (plan ≡ []) (IsTrial checked plan)) c.in-Some.is c.requires in
    (c.is_cured.ensures checked plan trial c.if-not-is_cured.false, subst (λ (all : List Edit). All (λ e. Contains all e) c.args.edits.now) c.deref-2.ensures.value (c.are_among.ensures c.if-are_among.true))
