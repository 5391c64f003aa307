use Rattle.std.proofs.{Common.{subst, sym, refl, ◌∙◌, length, arith, add-one}, lemmas.Option.{slice_get_read}}
use Rattle.pmf_cut.specs.Parts.{Stands}
use Rattle.pmf_cut.proofs.renewing.part_of.Goals as goal

pub loop-event-init : goal.loop-event-init
loop-event-init c = λ gs begins. c.new-part.ensures.stands gs

pub loop-event-preserved : goal.loop-event-preserved
loop-event-preserved c = λ gs begins.
    let next = begins c.loop-event.event-index c.loop-event-test.true ∙ slice_get_read c.args.events.now (length c.args.events.now) c.loop-event.event-index c.event-item.result refl c.loop-event-test.true c.event-item.is in
    subst (Stands c.take.new.self gs) (sym (add-one c.loop-event.event-index)) (c.in-Ok.ensures.follows gs c.loop-event.event-index next (c.loop-event.invariant gs begins))

pub returns : goal.returns
returns c = λ gs begins. subst (Stands c.loop-event.part gs) (omega arith) (c.loop-event.invariant gs begins)
