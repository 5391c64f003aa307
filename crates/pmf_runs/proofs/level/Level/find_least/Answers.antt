use Rattle.std.proofs.Common.{◌+◌, ◌∙◌, ap, arith}
use Rattle.pmf_runs.{specs.Ranks.{rank}, specs.Walks.{end_of}, specs.Levels.{level_state}, proofs.AskingLemmas.{least-law, asked-none, asked-end, asked-rest}, proofs.LevelLemmas.{level-bound}, proofs.LevelAskingLemmas.{part-begun}}
use Rattle.pmf_runs.proofs.level.Level.find_least.Goals as goal

pub returns-then-first-end : goal.returns-then-first-end
returns-then-first-end g c = asked-none least-law (λ d b. g.K.Key.key c.args.key.now (level_state g.P.Part.state c.args.self.now d b)) c.args.least c.args.self.now.keys.items c.args.first c.args.end c.if-first-end.true

pub index-requires : goal.index-requires
index-requires g c = grind (arith, level-bound)

pub returns-then-until-end : goal.returns-then-until-end
returns-then-until-end g c =
    let at = c.start_of-index.ensures ∙ ap (λ ks. rank ks c.args.first) c.deref.ensures.value in
    let ends = c.end_of-until.ensures ∙ ap (λ ks. end_of ks c.start_of-index.result c.args.end) c.deref-2.ensures.value in
    asked-end least-law (λ d b. g.K.Key.key c.args.key.now (level_state g.P.Part.state c.args.self.now d b)) c.args.least c.args.self.now.keys.items c.args.first c.args.end c.end_of-until.result (c.start_of-index.result + 1) c.least_key-lowest.result c.if-until-end.true
    (part-begun least-law g.P.Part.state (g.K.Key.key c.args.key.now) c.args.self.now c.index.result.now c.args.first c.args.end c.start_of-index.result c.end_of-until.result c.args.least c.least_key-lowest.result c.index.ensures c.if-first-end.false at ends c.least_key-lowest.ensures)

pub returns : goal.returns
returns g c =
    let at = c.start_of-index.ensures ∙ ap (λ ks. rank ks c.args.first) c.deref.ensures.value in
    let ends = c.end_of-until.ensures ∙ ap (λ ks. end_of ks c.start_of-index.result c.args.end) c.deref-2.ensures.value in
    asked-rest least-law (λ d b. g.K.Key.key c.args.key.now (level_state g.P.Part.state c.args.self.now d b)) c.args.least c.args.self.now.keys.items c.args.first c.args.end c.end_of-until.result (c.start_of-index.result + 1) c.least_key-lowest.result c.least_onward.result
    (λ d. c.least_onward.ensures d ∙ c.lowered-lowered.ensures d)
    (part-begun least-law g.P.Part.state (g.K.Key.key c.args.key.now) c.args.self.now c.index.result.now c.args.first c.args.end c.start_of-index.result c.end_of-until.result c.args.least c.least_key-lowest.result c.index.ensures c.if-first-end.false at ends c.least_key-lowest.ensures)
