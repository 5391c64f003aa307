use Rattle.pmf_shadow.proofs.TotalsLemmas.{kept_counted}
use Rattle.pmf_shadow.proofs.shadow.Shadow.settle.Goals as goal

pub invariant_of-self : goal.invariant_of-self
invariant_of-self c = record { counted = kept_counted c.args.self.now.bytes c.settle.new.self c.args.self.now.fences c.args.self.now.totals c.settle.ensures.same c.args.self.now.counted }
