use Rattle.std.proofs.Common.{sym, ◌∙◌}
use Rattle.pmf_cut.proofs.LostLemmas.{none-told-run}
use Rattle.pmf_cut.proofs.lost.Past.has_told.Goals as goal

pub loop-first-preserved : goal.loop-first-preserved
loop-first-preserved c = (
  c.standing_from-until.ensures.within,
  none-told-run c.args.shadow.now c.args.head c.first-first.result c.loop-first.first c.standing_from-until.result.1 c.standing_from-until.result.0
      c.standing_from-until.ensures.stands (sym c.is_told_again.ensures ∙ c.if-is_told_again.false) c.loop-first.invariant.1,
)
