use Rattle.std.proofs.Common.{◌≡◌, ◌∷◌, [], ◌+◌, ◌<◌, length, drop, ◌∙◌, sym, ap, subst, arith}
use Rattle.std.proofs.{lemmas.List.{drop_more, drop_all}, lemmas.Option.{slice_get_within, get_or_from_slice_get}}
use Rattle.pmf_cause.proofs.ChangedLemmas.{changing_done, walked_kept, walked_left, Changing}
use Rattle.pmf_cause.proofs.changing.change.Goals as goal
use Rattle.pmf_cause.proofs.changing.change.Goals.{then-not-here+in_ok-push, else-not-here}

pub loop-index-preserved : goal.loop-index-preserved
loop-index-preserved c =
    let at = c.loop-index.invariant.at in
    let less : c.loop-index.index < length c.args.events.now = slice_get_within c.args.events.now c.loop-index.index c.at-event.result c.at-event.ensures.value in
    let step : drop c.loop-index.index c.args.events.now ≡ c.at-event.result ∷ drop (c.loop-index.index + 1) c.args.events.now =
    drop_more c.args.events.now c.loop-index.index c.at-event.result less ∙ ap (λ e. e ∷ drop (c.loop-index.index + 1) c.args.events.now) (get_or_from_slice_get c.args.events.now c.loop-index.index c.at-event.result c.at-event.result c.at-event.ensures.value) in
    record {
      at = omega arith;
      changing = elim c.if-not-here.branch [
        | then-not-here+in_ok-push w ↦ subst (λ made. Changing c.args.edits.now c.args.name c.args.events.now made c.in_ok-here.here.rest.now (c.loop-index.place + 1) (drop (c.loop-index.index + 1) c.args.events.now)) (sym w.made-is)
            (walked_kept c.args.edits.now c.args.name c.args.events.now c.loop-index.made c.put_here.new.made w.push.new.self c.loop-index.rest.now c.in_ok-here.here.rest.now c.loop-index.index c.loop-index.place c.at-event.result c.in_ok-here.here.left_out step
            c.loop-index.invariant.changing c.in_ok-here.ensures w.if-not-here.true w.in_ok-push.ensures)
        | else-not-here w ↦ subst (λ made. Changing c.args.edits.now c.args.name c.args.events.now made c.in_ok-here.here.rest.now (c.loop-index.place + 1) (drop (c.loop-index.index + 1) c.args.events.now)) (sym w.made-is)
            (walked_left c.args.edits.now c.args.name c.args.events.now c.loop-index.made c.put_here.new.made c.loop-index.rest.now c.in_ok-here.here.rest.now c.loop-index.index c.loop-index.place c.at-event.result c.in_ok-here.here.left_out step
            c.loop-index.invariant.changing c.in_ok-here.ensures w.if-not-here.false)
      ];
    }

pub returns-clause-section : goal.returns-clause-section
returns-clause-section c =
    let at = c.loop-index.invariant.at in
    let none = drop_all c.loop-index.index c.args.events.now (omega (arith, c.loop-index-test.false, c.len-index-end.ensures.value)) in
    let end : Changing c.args.edits.now c.args.name c.args.events.now c.loop-index.made c.loop-index.rest.now c.loop-index.place [] =
    subst (Changing c.args.edits.now c.args.name c.args.events.now c.loop-index.made c.loop-index.rest.now c.loop-index.place) none c.loop-index.invariant.changing in
    (changing_done c.args.edits.now c.args.name c.args.events.now c.loop-index.made c.put_here-2.new.made c.loop-index.rest.now c.in_ok-put_here.field-0.rest.now c.loop-index.place c.in_ok-put_here.field-0.left_out end c.in_ok-put_here.ensures).0

pub returns-clause-places : goal.returns-clause-places
returns-clause-places c =
    let none = drop_all c.loop-index.index c.args.events.now (omega (arith, c.loop-index-test.false, c.len-index-end.ensures.value)) in
    let end : Changing c.args.edits.now c.args.name c.args.events.now c.loop-index.made c.loop-index.rest.now c.loop-index.place [] =
    subst (Changing c.args.edits.now c.args.name c.args.events.now c.loop-index.made c.loop-index.rest.now c.loop-index.place) none c.loop-index.invariant.changing in
    c.in_ok-push-2.ensures.items ∙ (changing_done c.args.edits.now c.args.name c.args.events.now c.loop-index.made c.put_here-2.new.made c.loop-index.rest.now c.in_ok-put_here.field-0.rest.now c.loop-index.place c.in_ok-put_here.field-0.left_out end c.in_ok-put_here.ensures).1
