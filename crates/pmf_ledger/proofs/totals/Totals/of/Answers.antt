use Rattle.std.proofs.Common.{sym, ◌∙◌, rules}
use Rattle.pmf_ledger.proofs.{lemmas.CountLemmas.{Counted-none, Counted-pass, Counted-fail, Counted-warn, Counted-empty}, totals.Totals.of.Goals.{in-Pass, in-Fail, in-Warn, in-Empty}}
use Rattle.pmf_ledger.proofs.totals.Totals.of.Goals as goal

pub loop-row-init : goal.loop-row-init
loop-row-init c = search (rules, Counted-none)

pub loop-row-preserved : goal.loop-row-preserved
loop-row-preserved c =
    let rows = c.rows-row-items.result.now in let so_far = c.loop-row.invariant in
    elim c.match-outcome_of_row.branch [
      | in-Pass w ↦ rw (w.pass-is, w.fail-is, w.warn-is, w.empty-is) (Counted-pass rows c.loop-row.row-index _ c.loop-row-test.true _ _ _ _ so_far (sym c.outcome_of_row.ensures ∙ w.in-Pass.is))
      | in-Fail w ↦ rw (w.pass-is, w.fail-is, w.warn-is, w.empty-is) (Counted-fail rows c.loop-row.row-index _ c.loop-row-test.true _ _ _ _ so_far (sym c.outcome_of_row.ensures ∙ w.in-Fail.is))
      | in-Warn w ↦ rw (w.pass-is, w.fail-is, w.warn-is, w.empty-is) (Counted-warn rows c.loop-row.row-index _ c.loop-row-test.true _ _ _ _ so_far (sym c.outcome_of_row.ensures ∙ w.in-Warn.is))
      | in-Empty w ↦ rw (w.pass-is, w.fail-is, w.warn-is, w.empty-is) (Counted-empty rows c.loop-row.row-index _ c.loop-row-test.true _ _ _ _ so_far (sym c.outcome_of_row.ensures ∙ w.in-Empty.is))
    ]
