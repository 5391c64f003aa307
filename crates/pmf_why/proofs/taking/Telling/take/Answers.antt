use Rattle.std.proofs.Common.{◌≡◌, ◌∙◌, ◌++◌, ◌∷◌, [], ap}
use Rattle.pmf_event.specs.Section.{Trace}
use Rattle.pmf_request.specs.declared.settings.Reasons.{Reasons}
use Rattle.pmf_why.{specs.declared.plan.Counts.{Counts}, specs.Reasons.{Part, rows_of_all}, proofs.CuredLemmas.{plan_spoils_nothing}, proofs.PartsLemmas.{parts_on}}
use Rattle.pmf_why.proofs.taking.Telling.take.Goals as goal

pub returns-clause-parts : goal.returns-clause-parts
returns-clause-parts c = λ asked bytes sections stands has.
    let part : Part = record { checked = c.in-Ok.verdict; stands = c.args.stands.now; plan = c.in_ok-plan.plan.edits.items } in
    let old = c.args.self.now in
    let checked : c.in-Ok.verdict ≡ record { section = c.args.section.now.value; profile = asked.profile } =
    c.in-Ok.ensures.checked ∙ ap (λ (s : Trace). record { section = s; profile = old.asked.profile }) c.in_ok-try_clone.ensures ∙ ap (λ (a : Reasons). record { section = c.args.section.now.value; profile = a.profile }) has.rows.asked_is in
    parts_on asked bytes sections old has c.args.section.now.value part c.take_rows.new.self (record { checked = checked; stands = stands; spoils_nothing = plan_spoils_nothing c.in-Ok.verdict c.in_ok-plan.plan.edits.items c.in_ok-plan.plan.trial c.in_ok-plan.ensures }) c.take_rows.result
    (c.take_rows.ensures.rows asked (rows_of_all asked has.parts) (record { asked_is = has.rows.asked_is; kinds = has.rows.kinds; told = has.rows.told }))
    _ c.take_rows.ensures.counts (c.in_ok-push.ensures.items ∙ ap (λ (n : Counts). old.counts.items ++ n ∷ []) c.counts.ensures)
