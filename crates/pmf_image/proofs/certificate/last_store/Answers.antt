use Rattle.std.proofs.Common.{◌≡◌, suc, add-one, sym, ◌∙◌, Some}
use Rattle.pmf_event.{specs.Store.{event_at, stores}, proofs.EventLemmas.{last-none}}
use Rattle.pmf_image.proofs.{CertificateLemmas.{last_store-next}, certificate.last_store.Goals.{then-stores, else-stores}}
use Rattle.pmf_image.proofs.certificate.last_store.Goals as goal

pub loop-index-init : goal.loop-index-init
loop-index-init c = sym (last-none (stores c.args.byte) c.args.events.now)

pub loop-index-preserved : goal.loop-index-preserved
loop-index-preserved c =
    let i = c.loop-index.index in
    let e = c.at-event.result in
    let here : event_at c.args.events.now (suc i) ≡ Some e = c.at-event.ensures.place in
    rw add-one (last_store-next c.args.events.now c.args.byte i c.loop-index.last _ e c.loop-index.invariant here (rw (← c.stores.ensures) (elim c.if-stores.branch [
      | then-stores w ↦ rw w.if-stores.true (w.last-is ∙ add-one i)
      | else-stores w ↦ rw w.if-stores.false w.last-is
    ])))
