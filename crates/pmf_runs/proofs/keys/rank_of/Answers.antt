use Rattle.std.proofs.Common.{sym, arith}
use Rattle.pmf_runs.proofs.RankLemmas.{rank-unique}
use Rattle.pmf_runs.proofs.keys.rank_of.Goals as goal

pub returns : goal.returns
returns c = sym (rank-unique c.args.keys.now c.args.place c.loop-low.low (grind arith))
