use Rattle.std.proofs.Common.{◌≡◌, arith, take, take_all}
use Rattle.pmf_cut.proofs.OutputLemmas.{says-next}
use Rattle.pmf_cut.proofs.output.Outputs.say.Goals as goal

pub loop-event-preserved : goal.loop-event-preserved
loop-event-preserved c =
    says-next c.args.file c.args.number c.loop-event.event-index c.args.events.now c.event-item.result _ c.loop-event.self _ c.in_ok-bytes.bytes.items c.loop-event-test.true c.event-item.is c.loop-event.invariant
    c.in_ok-bytes.ensures (rw c.deref.ensures.value at c.in_ok-push.ensures)

pub returns : goal.returns
returns c = let all : take c.loop-event.event-index c.args.events.now ≡ c.args.events.now = take_all c.loop-event.event-index c.args.events.now (omega arith) in rw all at c.loop-event.invariant
