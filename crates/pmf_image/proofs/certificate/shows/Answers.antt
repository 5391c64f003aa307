use Rattle.std.proofs.{Common.{◌≡◌, suc, arith, add-one, Some, length-take-le}, lemmas.Grind.{common_steps}}
use Rattle.pmf_event.{specs.Line.{line_of_byte}, specs.Store.{event_at, stores, last_store}, proofs.EventLemmas.{last-none}}
use Rattle.pmf_image.proofs.CertificateLemmas.{Carried-none, Carried-step, last_store-next, shows-carried}
use Rattle.pmf_image.proofs.certificate.shows.Goals as goal

pub loop-index-init : goal.loop-index-init
loop-index-init c =
    rw c.none-places.ensures
    (Carried-none c.args.events.now (line_of_byte c.args.byte) (λ k. last_store c.args.events.now k c.args.byte) (last-none (stores c.args.byte) c.args.events.now))

pub loop-index-preserved : goal.loop-index-preserved
loop-index-preserved c =
    let es = c.args.events.now in
    let b = c.args.byte in
    let i = c.loop-index.index in
    let e = c.at-event.result in
    let old = c.loop-index.places in
    let new = rw c.line_of-line.ensures at c.follow.ensures in
    let here : event_at es (suc i) ≡ Some e = c.at-event.ensures.place in
    rw add-one (Carried-step es (line_of_byte b) (λ k. last_store es k b) i old e c.loop-index.invariant here _
    (last_store-next es b i old.stored _ e c.loop-index.invariant.stored_is here (rw (c.stores.ensures, add-one i) at new.stored))
    new.flushed new.durable)

pub returns : goal.returns
returns c = grind (arith, common_steps, length-take-le, shows-carried)
