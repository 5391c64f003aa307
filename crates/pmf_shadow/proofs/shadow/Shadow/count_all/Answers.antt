use Rattle.pmf_shadow.proofs.TotalsLemmas.{new_totals}
use Rattle.pmf_shadow.proofs.shadow.Shadow.count_all.Goals as goal

pub returns : goal.returns
returns c =
    new_totals c.args.self.now.bytes c.args.self.now.fences c.count_with.result c.count_with-2.result 0 c.count_with.ensures c.count_with-2.ensures (c.has_from.ensures c.if-has_from.false)
