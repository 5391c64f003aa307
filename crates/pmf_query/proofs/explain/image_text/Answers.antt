use Rattle.std.proofs.Common.{◌∙◌, ap, string_bytes}
use Rattle.pmf_verdict.proofs.TextLemmas.{text-here, text-elsewhere}
use Rattle.pmf_query.{specs.Explanation.{text_of_bytes, text_of_image}, proofs.explain.image_text.Goals.{then-row-place+in_ok-push_bytes, else-row-place}}
use Rattle.pmf_query.proofs.explain.image_text.Goals as goal

pub loop-row-preserved : goal.loop-row-preserved
loop-row-preserved c =
    let text_of = text_of_bytes c.args.events.now c.args.certificate c.args.place in
    let head = text_of_image c.args.certificate in
    elim c.if-row-place.branch [
      | then-row-place+in_ok-push_bytes w ↦
          text-here text_of c.args.rows.now c.args.place c.loop-row.row-index _ c.loop-row-test.true head _ _ w.if-row-place.true c.loop-row.invariant
          (ap string_bytes w.text-is ∙ w.in_ok-push_bytes.ensures)
      | else-row-place w ↦
          text-elsewhere text_of c.args.rows.now c.args.place c.loop-row.row-index _ c.loop-row-test.true head _ w.if-row-place.false
          (ap string_bytes w.text-is ∙ c.loop-row.invariant)
    ]
