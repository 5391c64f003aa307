use Rattle.std.proofs.Common.{◌∙◌, ap, arith}
use Rattle.pmf_event.specs.Ranges.{lesser}
use Rattle.pmf_runs.{specs.Ranks.{rank}, specs.Walks.{end_of}, specs.Levels.{level_state}, proofs.AskingLemmas.{least-law, asked-start, asked-more, asked-end}, proofs.LevelAskingLemmas.{part-asked}}
use Rattle.pmf_runs.proofs.level.Level.least_onward.Goals as goal

pub loop-start-init : goal.loop-start-init
loop-start-init g c =
    asked-start least-law (λ d b. g.K.Key.key c.args.key.now (level_state g.P.Part.state c.args.self.now d b)) c.args.least c.args.self.now.keys.items c.args.first c.args.end c.start_of-index.result (c.start_of-index.ensures ∙ ap (λ ks. rank ks c.args.first) c.deref.ensures.value)

pub loop-start-preserved : goal.loop-start-preserved
loop-start-preserved g c =
    let ends = c.end_of-until.ensures ∙ ap (λ ks. end_of ks c.loop-start.index c.args.end) c.deref-in-loop-start.ensures.value in
    asked-more least-law (λ d b. g.K.Key.key c.args.key.now (level_state g.P.Part.state c.args.self.now d b)) c.args.least c.args.self.now.keys.items c.args.first c.args.end c.loop-start.start c.loop-start.index c.end_of-until.result c.loop-start.lowest c.least_key-lowest.result c.args.self.now.ordered c.loop-start-test.true ends
    (λ d. c.least_key-lowest.ensures d ∙ ap (lesser c.loop-start.lowest) (part-asked least-law g.P.Part.state (g.K.Key.key c.args.key.now) c.args.self.now c.index.result.now c.args.first c.args.end c.loop-start.start c.loop-start.index c.end_of-until.result c.index.ensures c.loop-start-test.true ends c.loop-start.invariant.walk d)) c.loop-start.invariant

pub returns : goal.returns
returns g c = asked-end least-law (λ d b. g.K.Key.key c.args.key.now (level_state g.P.Part.state c.args.self.now d b)) c.args.least c.args.self.now.keys.items c.args.first c.args.end c.loop-start.start c.loop-start.index c.loop-start.lowest (omega arith) c.loop-start.invariant
