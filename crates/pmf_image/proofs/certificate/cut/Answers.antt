use Rattle.std.proofs.{Common.{◌≡◌, suc, arith, add-one, Some, length-take-le}, lemmas.Grind.{common_steps}}
use Rattle.pmf_event.specs.{Store.{event_at}}
use Rattle.pmf_image.{specs.Image.{count_of}, proofs.CertificateLemmas.{Carried-none, Carried-step, count_of-none, count_of-bound, count_of-next, cut-carried}}
use Rattle.pmf_image.proofs.certificate.cut.Goals as goal

pub loop-index-init : goal.loop-index-init
loop-index-init c =
    rw c.none-counts.ensures (Carried-none c.args.events.now c.args.line (λ k. count_of c.args.events.now k c.args.line) (count_of-none c.args.events.now c.args.line))

pub overflow_add-next : goal.overflow_add-next
overflow_add-next c = grind (arith, common_steps, length-take-le, count_of-bound)

pub loop-index-preserved : goal.loop-index-preserved
loop-index-preserved c =
    let es = c.args.events.now in
    let line = c.args.line in
    let i = c.loop-index.index in
    let e = c.at-event.result in
    let old = c.loop-index.counts in
    let new = c.follow.ensures in
    let here : event_at es (suc i) ≡ Some e = c.at-event.ensures.place in
    rw add-one (Carried-step es line (λ k. count_of es k line) i old e c.loop-index.invariant here _
    (count_of-next es line i old.stored _ e c.loop-index.invariant.stored_is here
    (rw (c.stores_line.ensures, add-one old.stored) at new.stored))
    new.flushed new.durable)

pub returns : goal.returns
returns c = grind (arith, common_steps, length-take-le, cut-carried)
