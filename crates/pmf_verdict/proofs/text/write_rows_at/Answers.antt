use Rattle.std.proofs.Common.{[], ◌∙◌, ap, string_bytes}
use Rattle.pmf_verdict.{specs.Text.{text_of_row}, proofs.TextLemmas.{text-here, text-elsewhere}, proofs.text.write_rows_at.Goals.{then-row-place+in_ok-push_row, else-row-place}}
use Rattle.pmf_verdict.proofs.text.write_rows_at.Goals as goal

pub loop-row-preserved : goal.loop-row-preserved
loop-row-preserved c = elim c.if-row-place.branch [
  | then-row-place+in_ok-push_row w ↦
      text-here text_of_row c.rows-row-items.result.now c.args.place c.loop-row.row-index _ c.loop-row-test.true [] _ _ w.if-row-place.true c.loop-row.invariant
      (ap string_bytes w.text-is ∙ w.in_ok-push_row.ensures)
  | else-row-place w ↦
      text-elsewhere text_of_row c.rows-row-items.result.now c.args.place c.loop-row.row-index _ c.loop-row-test.true [] _ w.if-row-place.false
      (ap string_bytes w.text-is ∙ c.loop-row.invariant)
]
