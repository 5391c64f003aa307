use Rattle.std.proofs.{Common.{subst}, lemmas.List.Elements.{All-more}}
use Rattle.pmf_ledger.specs.ReportTold.{FitsSection}
use Rattle.pmf_ledger.proofs.fitting.sections_fit.Goals as goal

pub loop-verdict-preserved : goal.loop-verdict-preserved
loop-verdict-preserved c = All-more FitsSection c.args.verdicts.now c.loop-verdict.verdict-index c.verdict-item.result c.loop-verdict-test.true c.loop-verdict.invariant (subst FitsSection c.verdict-item.is c.section_fits.ensures)
