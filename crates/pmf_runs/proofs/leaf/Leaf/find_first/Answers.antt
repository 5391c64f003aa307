use Rattle.std.proofs.Common.{sym, ◌∙◌, ap, subst, arith, None}
use Rattle.pmf_runs.{specs.Ranks.{rank, IsBeyond}, specs.Walks.{end_of}, specs.Leaves.{leaf_state}, proofs.RankLemmas.{none-is-any}, proofs.AskingLemmas.{first-law, asked-start, asked-more, asked-end, asked-found, run-asked}}
use Rattle.pmf_runs.proofs.leaf.Leaf.find_first.Goals as goal

pub loop-start-init : goal.loop-start-init
loop-start-init g c =
    asked-start first-law (λ d b. g.T.Test.passes c.args.test.now (leaf_state c.args.self.now d b)) None c.args.self.now.keys.items c.args.first c.args.end c.start_of-index.result (c.start_of-index.ensures ∙ ap (λ ks. rank ks c.args.first) c.deref.ensures.value)

pub returns-then-is_beyond : goal.returns-then-is_beyond
returns-then-is_beyond g c = λ d. c.first_onward.ensures d c.args.end c.if-first-end.true (subst (λ ks. IsBeyond ks c.args.end) c.deref-then-first-end.ensures.value (c.is_beyond.ensures c.if-is_beyond.true))

pub returns-then-is_some : goal.returns-then-is_some
returns-then-is_some g c =
    let ends = c.end_of-until.ensures ∙ ap (λ ks. end_of ks c.loop-start.index c.args.end) c.deref-in-loop-start.ensures.value in
    asked-found (λ d b. g.T.Test.passes c.args.test.now (leaf_state c.args.self.now d b)) c.args.self.now.keys.items c.args.first c.args.end c.loop-start.start c.loop-start.index c.end_of-until.result c.first_of_run-found.result c.args.self.now.ordered c.loop-start-test.true ends
    (λ d. c.first_of_run-found.ensures ∙ run-asked first-law (g.T.Test.passes c.args.test.now) c.args.self.now c.index.result.now c.passes-passes.result c.args.first c.args.end c.loop-start.start c.loop-start.index c.end_of-until.result c.index.ensures c.passes-passes.ensures c.loop-start-test.true ends c.loop-start.invariant.walk d) (sym c.is_some.ensures ∙ c.if-is_some.true) c.loop-start.invariant

pub loop-start-preserved : goal.loop-start-preserved
loop-start-preserved g c =
    let ends = c.end_of-until.ensures ∙ ap (λ ks. end_of ks c.loop-start.index c.args.end) c.deref-in-loop-start.ensures.value in
    asked-more first-law (λ d b. g.T.Test.passes c.args.test.now (leaf_state c.args.self.now d b)) None c.args.self.now.keys.items c.args.first c.args.end c.loop-start.start c.loop-start.index c.end_of-until.result None None c.args.self.now.ordered c.loop-start-test.true ends
    (λ d. sym (none-is-any c.first_of_run-found.result (sym c.is_some.ensures ∙ c.if-is_some.false)) ∙ c.first_of_run-found.ensures ∙ run-asked first-law (g.T.Test.passes c.args.test.now) c.args.self.now c.index.result.now c.passes-passes.result c.args.first c.args.end c.loop-start.start c.loop-start.index c.end_of-until.result c.index.ensures c.passes-passes.ensures c.loop-start-test.true ends c.loop-start.invariant.walk d) c.loop-start.invariant

pub returns : goal.returns
returns g c = asked-end first-law (λ d b. g.T.Test.passes c.args.test.now (leaf_state c.args.self.now d b)) None c.args.self.now.keys.items c.args.first c.args.end c.loop-start.start c.loop-start.index None (omega arith) c.loop-start.invariant
