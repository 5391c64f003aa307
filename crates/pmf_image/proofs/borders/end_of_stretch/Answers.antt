use Rattle.std.proofs.Common.{◌≡◌, suc, arith, add-one, Some}
use Rattle.pmf_event.specs.Store.{event_at}
use Rattle.pmf_image.proofs.{BorderLemmas.{stretch-start, stretch-span, stretch-other, stretch-alike}, borders.end_of_stretch.Goals.{in_default, in-Store2}}
use Rattle.pmf_image.proofs.borders.end_of_stretch.Goals as goal

pub loop-index-init : goal.loop-index-init
loop-index-init c =
    stretch-start c.args.events.now c.args.certificate c.args.byte c.args.end c.before_line-stretch_end.result
    c.before_line-stretch_end.ensures.above c.before_line-stretch_end.ensures.below c.before_line-stretch_end.ensures.alike

pub loop-index-preserved : goal.loop-index-preserved
loop-index-preserved c =
    let es = c.args.events.now in
    let i = c.loop-index.index in
    let e = c.at-event.result in
    let here : event_at es (suc i) ≡ Some e = c.at-event.ensures.place in
    rw add-one (elim c.match-event.branch [
      | in_default w ↦ stretch-other es c.args.certificate c.args.byte c.args.end i _ _ e c.loop-index.invariant here
          w.in_default.not-Store w.in_default.not-Flush w.in_default.not-Exclude w.in_default.not-Include w.stretch_end-is
      | in-Store2 w ↦
          let ends = w.before_borders-stretch_end.ensures in
          rw w.stretch_end-is
          (stretch-span es c.args.certificate c.args.byte c.args.end i _ _ e w.in-Store.span c.loop-index.invariant here w.in-Store.is ends.above ends.below ends.bytes ends.lines)
    ])

pub returns-clause-alike : goal.returns-clause-alike
returns-clause-alike c = λ x from until.
    stretch-alike c.args.events.now c.args.certificate c.args.byte c.args.end c.loop-index.index c.loop-index.stretch_end x c.loop-index.invariant (omega arith) from until
