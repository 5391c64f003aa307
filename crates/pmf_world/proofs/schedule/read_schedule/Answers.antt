-- The text lines are those of the definition, read one by one.
use Rattle.std.{proofs.Common.{◌<◌, length, sym, ◌∙◌, arith, rules, tests}, specs.List.{slice_split}, proofs.lemmas.Bool.Decides.{nat_tests}, proofs.lemmas.List.{length_push}, proofs.lemmas.Result.{err_from_is_err_and}, proofs.lemmas.Iterator.Splits.{YieldsList-from_slice_split}, proofs.lemmas.Grind.{common_steps}}
use Rattle.pmf_world.{specs.Schedule.{is_line_end}, proofs.lemmas.ScheduleLineLemmas.{turned, ended}, proofs.lemmas.ScheduleLemmas.{at_empty, at_step, at_bad, at_end, tells_some, told}, proofs.schedule.read_schedule.Goals.{then-not-is_empty+in-Some-read_step+in_ok-push-in-Some-read_step, else-not-is_empty}}
use Rattle.pmf_world.proofs.schedule.read_schedule.Goals as goal

pub returns-in-None-read_step : goal.returns-in-None-read_step
returns-in-None-read_step c =
    let turn =
    turned c.into_iter-line-iterator.result _ c.loop-line.yielded _ c.loop-line.yielded_by _ _ c.in-Some.line c.in-Some.is c.next.ensures.steps
    (YieldsList-from_slice_split {s = c.into_iter-line-iterator.result} _ is_line_end c.args.text.now (cc) (cc) (cc) (λ x r q k. search (rules, tests))) in
    let some : 0 < length c.in-Some.line.now = grind (arith, nat_tests) in
    told c.args.text.now
    ∙ at_bad (slice_split is_line_end c.args.text.now) (length c.loop-line.yielded) c.loop-line.number c.loop-line.steps.items c.loop-line.invariant
    c.in-Some.line.now turn.0 turn.1 some (sym c.in-None-read_step.ensures)

pub returns-in_err-push-in-Some-read_step : goal.returns-in_err-push-in-Some-read_step
returns-in_err-push-in-Some-read_step c =
    let turn =
    turned c.into_iter-line-iterator.result _ c.loop-line.yielded _ c.loop-line.yielded_by _ _ c.in-Some.line c.in-Some.is c.next.ensures.steps
    (YieldsList-from_slice_split {s = c.into_iter-line-iterator.result} _ is_line_end c.args.text.now (cc) (cc) (cc) (λ x r q k. search (rules, tests))) in
    let some : 0 < length c.in-Some.line.now = grind (arith, nat_tests) in
    let p = err_from_is_err_and c.from_residual.result c.from_residual.ensures.1 in
    rw (p.1, p.2) (tells_some c.args.text.now (length c.loop-line.yielded) c.loop-line.number c.loop-line.steps.items c.loop-line.invariant
    c.in-Some.line.now turn.0 turn.1 some c.in-Some-read_step.step (sym c.in-Some-read_step.ensures))

pub loop-line-preserved : goal.loop-line-preserved
loop-line-preserved c =
    let turn =
    turned c.into_iter-line-iterator.result _ c.loop-line.yielded _ c.loop-line.yielded_by _ _ c.in-Some.line c.in-Some.is c.next.ensures.steps
    (YieldsList-from_slice_split {s = c.into_iter-line-iterator.result} _ is_line_end c.args.text.now (cc) (cc) (cc) (λ x r q k. search (rules, tests))) in
    grind (arith, common_steps, then-not-is_empty+in-Some-read_step+in_ok-push-in-Some-read_step, nat_tests, at_step, length_push, else-not-is_empty, at_empty)

pub returns : goal.returns
returns c =
    let over =
    ended c.into_iter-line-iterator.result _ c.loop-line.yielded _ c.loop-line.yielded_by _ _ c.in-None.is c.next.ensures.steps
    (YieldsList-from_slice_split {s = c.into_iter-line-iterator.result} _ is_line_end c.args.text.now (cc) (cc) (cc) (λ x r q k. search (rules, tests))) in
    told c.args.text.now
    ∙ at_end (slice_split is_line_end c.args.text.now) (length c.loop-line.yielded) c.loop-line.number c.loop-line.steps.items c.loop-line.invariant (omega (arith, over))
