use Rattle.std.proofs.{lemmas.List.Elements.{All-more}, Common.{rules}}
use Rattle.pmf_ledger.proofs.fitting.rows_fit.Goals as goal

pub loop-row-preserved : goal.loop-row-preserved
loop-row-preserved c = search (rules, All-more)
