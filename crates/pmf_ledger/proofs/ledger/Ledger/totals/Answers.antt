use Rattle.std.proofs.Common.{sym, subst, rules}
use Rattle.pmf_ledger.proofs.lemmas.CountLemmas.{Sums, Sums_more, Sums-none}
use Rattle.pmf_ledger.proofs.ledger.Ledger.totals.Goals as goal

pub loop-verdict-init : goal.loop-verdict-init
loop-verdict-init c = subst (Sums c.deref-verdict-items.result.now 0) (sym c.none-totals.ensures) (Sums-none c.deref-verdict-items.result.now)

pub loop-verdict-preserved : goal.loop-verdict-preserved
loop-verdict-preserved c = search (rules, Sums_more)
