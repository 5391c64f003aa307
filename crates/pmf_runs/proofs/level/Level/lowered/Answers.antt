use Rattle.std.proofs.Common.{◌∙◌, ap, arith}
use Rattle.pmf_runs.{specs.Ranks.{rank}, specs.Walks.{end_of}, proofs.LevelLemmas.{level-bound}, proofs.LevelAskingLemmas.{part-before}}
use Rattle.pmf_runs.proofs.level.Level.lowered.Goals as goal

pub index-requires : goal.index-requires
index-requires g c = grind (arith, level-bound)

pub returns : goal.returns
returns g c =
    part-before g.P.Part.state (g.K.Key.key c.args.key.now) c.args.self.now c.index.result.now c.args.first c.args.end c.likely-at.result c.start_of-index.result c.end_of-until.result c.args.least c.least_key.result c.index.ensures c.if-at-first.false c.if-at-end.false
    (c.start_of-index.ensures ∙ ap (λ ks. rank ks c.likely-at.result) c.deref.ensures.value)
    (c.end_of-until.ensures ∙ ap (λ ks. end_of ks c.start_of-index.result c.args.end) c.deref-2.ensures.value) c.least_key.ensures
