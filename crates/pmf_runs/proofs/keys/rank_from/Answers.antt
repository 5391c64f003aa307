use Rattle.std.proofs.Common.{sym, arith}
use Rattle.pmf_runs.proofs.RankLemmas.{rank-unique}
use Rattle.pmf_runs.proofs.keys.rank_from.Goals as goal

pub returns-else-keys-index : goal.returns-else-keys-index
returns-else-keys-index c = sym (rank-unique c.args.keys.now c.args.place c.loop-index.index (grind arith))

pub returns-after-loop-index : goal.returns-after-loop-index
returns-after-loop-index c = sym (rank-unique c.args.keys.now c.args.place c.loop-index.index (grind arith))
