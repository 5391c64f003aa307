use Rattle.pmf_cause.{proofs.WatchLemmas.{asks_all}}
use Rattle.pmf_cause.proofs.watch.Watch.of.Goals as goal

pub loop-row-preserved : goal.loop-row-preserved
loop-row-preserved c = asks_all c.put.new.self c.loop-row.watch c.in_ok-put.ensures.widens c.args.rows.now c.loop-row.row-index _ c.loop-row-test.true c.in_ok-put.ensures.asks c.loop-row.invariant
