use Rattle.std.proofs.Common.{◌+◌, ◌-◌, ◌≤◌, length, ◌∙◌, ap, arith}
use Rattle.pmf_runs.{specs.Ranks.{rank}, specs.Walks.{end_of}, specs.Levels.{level_state}, proofs.AskingLemmas.{lines-law, lines-past, asked-start, asked-more, asked-past, asked-end}, proofs.ChangingLemmas.{parts-past}, proofs.LevelLemmas.{level-counted}, proofs.LevelAskingLemmas.{part-asked}}
use Rattle.pmf_runs.proofs.level.Level.count_lines.Goals as goal

pub loop-start-init : goal.loop-start-init
loop-start-init g c = record { bound = c.requires; asked = asked-start lines-law _ _ _ _ _ _ (c.start_of-index.ensures ∙ ap (λ ks. rank ks c.args.first) c.deref.ensures.value) }

pub loop-start-preserved-then-next-index : goal.loop-start-preserved-then-next-index
loop-start-preserved-then-next-index g c =
    let counted = level-counted c.args.self.now in
    let bounded : c.next_that_may-next.result ≤ length c.args.self.now.keys.items + 1 = omega (arith, counted, c.next_that_may-next.ensures.within, c.args.self.now.parts.ok.0) in
    let ends = c.end_of-start.ensures ∙ ap (λ ks. end_of ks (c.next_that_may-next.result - 1) c.args.end) c.deref-then-next-index.ensures.value in
    record {
      bound = c.loop-start.invariant.bound;
      asked = asked-past lines-law (λ d b. g.T.Test.passes c.args.test.now (level_state g.P.Part.state c.args.self.now d b)) c.args.so_far c.args.self.now.keys.items c.args.first c.args.end c.loop-start.start c.loop-start.index c.next_that_may-next.result c.end_of-start.result c.loop-start.counted c.args.self.now.ordered c.loop-start-test.true c.if-next-index.true bounded ends
          (λ d at. lines-past (λ b. g.T.Test.passes c.args.test.now (level_state g.P.Part.state c.args.self.now d b)) c.loop-start.start c.end_of-start.result c.loop-start.counted (λ b low high. parts-past g.P.Part.state (g.T.Test.passes c.args.test.now) c.args.self.now c.loop-start.index c.next_that_may-next.result c.next_that_may-next.ensures.none d b (at b low high))) c.loop-start.invariant.asked;
    }

pub loop-start-preserved : goal.loop-start-preserved
loop-start-preserved g c =
    let ends = c.end_of-until.ensures ∙ ap (λ ks. end_of ks c.loop-start.index c.args.end) c.deref-else-next-index.ensures.value in
    record {
      bound = c.count_lines-counted.ensures.bound;
      asked = asked-more lines-law (λ d b. g.T.Test.passes c.args.test.now (level_state g.P.Part.state c.args.self.now d b)) c.args.so_far c.args.self.now.keys.items c.args.first c.args.end c.loop-start.start c.loop-start.index c.end_of-until.result c.loop-start.counted c.count_lines-counted.result c.args.self.now.ordered c.loop-start-test.true ends
          (λ d. c.count_lines-counted.ensures.is d ∙ ap (λ count. count c.loop-start.counted) (part-asked lines-law g.P.Part.state (g.T.Test.passes c.args.test.now) c.args.self.now c.index.result.now c.args.first c.args.end c.loop-start.start c.loop-start.index c.end_of-until.result c.index.ensures c.loop-start-test.true ends c.loop-start.invariant.asked.walk d)) c.loop-start.invariant.asked;
    }

pub returns-clause-is : goal.returns-clause-is
returns-clause-is g c = asked-end lines-law (λ d b. g.T.Test.passes c.args.test.now (level_state g.P.Part.state c.args.self.now d b)) c.args.so_far c.args.self.now.keys.items c.args.first c.args.end c.loop-start.start c.loop-start.index c.loop-start.counted (omega arith) c.loop-start.invariant.asked
