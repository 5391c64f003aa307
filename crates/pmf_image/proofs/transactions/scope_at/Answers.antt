use Rattle.std.proofs.{Common.{◌≡◌, suc, arith, add-one, Some, length-take-le}, lemmas.Grind.{common_steps}}
use Rattle.pmf_event.{specs.Store.{event_at}, proofs.TransactionLemmas.{depth-bound}}
use Rattle.pmf_image.proofs.{ScopeLemmas.{tracked-none, tracked-step}}
use Rattle.pmf_image.proofs.transactions.scope_at.Goals as goal

pub loop-index-init : goal.loop-index-init
loop-index-init c = tracked-none c.args.events.now c.args.byte

pub follow-requires : goal.follow-requires
follow-requires c = grind (arith, common_steps, length-take-le, depth-bound)

pub loop-index-preserved : goal.loop-index-preserved
loop-index-preserved c =
    let e = c.at-event.result in
    let new = rw add-one at c.follow.ensures in
    let here : event_at c.args.events.now (suc c.loop-index.index) ≡ Some e =
    c.at-event.ensures.place in
    rw add-one (tracked-step c.args.events.now c.args.byte c.loop-index.index _ _ c.loop-index.invariant e here new.depth new.scope new.byte)
