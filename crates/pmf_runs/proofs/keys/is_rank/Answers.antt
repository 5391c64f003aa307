use Rattle.std.proofs.Common.{rules}
use Rattle.pmf_runs.proofs.RankLemmas.{rank-told}
use Rattle.pmf_runs.proofs.keys.is_rank.Goals as goal

pub returns-then-reaches : goal.returns-then-reaches
returns-then-reaches c = λ short.
    rank-told c.args.keys.now c.args.place c.args.count c.requires (search rules) (c.reaches.ensures c.if-reaches.true) (c.falls_short.ensures short)
