use Rattle.pmf_shadow.proofs.TotalsLemmas.{fenced_totals}
use Rattle.pmf_shadow.proofs.shadow.Shadow.totals_after_fence.Goals as goal

pub returns-in-Some : goal.returns-in-Some
returns-in-Some c = fenced_totals c.args.self.now.bytes c.args.self.now.fences c.in-Some.totals.stores c.in-Some.totals (c.args.self.now.counted.each c.in-Some.totals c.in-Some.is)
