use Rattle.std.proofs.{Common.{◌≡◌, length, subst, arith}, lemmas.Option.{slice_get_read}}
use Rattle.pmf_cut.{specs.Deferred.{TakesFirst}, proofs.DeferredLemmas.{goes-on-next}}
use Rattle.pmf_cut.proofs.deferred.take_all.Goals as goal

pub loop-event-preserved : goal.loop-event-preserved
loop-event-preserved c = search (arith, goes-on-next, slice_get_read, c.args.events.now, c.loop-event.event-index, c.event-item.result, c.loop-event-test.true, c.event-item.is, c.loop-event.invariant, c.in_ok-take.ensures.part)

pub returns : goal.returns
returns c = let all : c.loop-event.event-index ≡ length c.args.events.now = omega arith in subst (TakesFirst c.args.part.now c.loop-event.part c.args.events.now) all c.loop-event.invariant
