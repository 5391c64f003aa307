use Rattle.std.proofs.{Common.{refl, sym, ◌∙◌, ap, arith}, lemmas.List.{get_or_read}}
use Rattle.pmf_runs.{specs.Ranks.{rank}, specs.Walks.{end_of}, specs.Levels.{level_state}, proofs.RankLemmas.{none-is-any, rank-is}, proofs.AskingLemmas.{asked-found}, proofs.LevelAskingLemmas.{sought-start, sought-asked, sought-rank, sought-more, sought-last, sought-end}}
use Rattle.pmf_runs.proofs.level.Level.find_first.Goals as goal

pub loop-start-init : goal.loop-start-init
loop-start-init g c =
    let at = c.start_of-index.ensures ∙ ap (λ ks. rank ks c.args.first) c.deref.ensures.value in
    let bound = (rank-is c.args.self.now.keys.items c.args.first).bound in
    record {
      within = omega arith;
      sought = sought-start (λ d b. g.T.Test.passes c.args.test.now (level_state g.P.Part.state c.args.self.now d b)) c.args.self.now.keys.items c.args.first c.args.end c.start_of-index.result at;
    }

pub first_in_part-found-requires-clause-rank : goal.first_in_part-found-requires-clause-rank
first_in_part-found-requires-clause-rank g c =
    sought-rank (λ d b. g.T.Test.passes c.args.test.now (level_state g.P.Part.state c.args.self.now d b)) c.args.self.now.keys.items c.args.first c.args.end c.loop-start.start c.loop-start.index c.loop-start-test.true c.loop-start.invariant.sought

pub returns-then-is_some : goal.returns-then-is_some
returns-then-is_some g c =
    let asked = sought-asked (λ d b. g.T.Test.passes c.args.test.now (level_state g.P.Part.state c.args.self.now d b)) c.args.self.now.keys.items c.args.first c.args.end c.loop-start.start c.loop-start.index c.loop-start-test.true c.loop-start.invariant.sought in
    asked-found (λ d b. g.T.Test.passes c.args.test.now (level_state g.P.Part.state c.args.self.now d b)) c.args.self.now.keys.items c.args.first c.args.end c.loop-start.start c.loop-start.index (end_of c.args.self.now.keys.items c.loop-start.index c.args.end) c.first_in_part-found.result c.args.self.now.ordered c.loop-start-test.true refl
    c.first_in_part-found.ensures (sym c.is_some.ensures ∙ c.if-is_some.true) asked

pub returns-then-index-len : goal.returns-then-index-len
returns-then-index-len g c =
    sought-last (λ d b. g.T.Test.passes c.args.test.now (level_state g.P.Part.state c.args.self.now d b)) c.args.self.now.keys.items c.args.first c.args.end c.loop-start.start c.loop-start.index c.args.self.now.ordered c.loop-start-test.true (omega (arith, c.len.ensures, c.args.self.now.keys.ok.0, c.if-index-len.true))
    (λ d. sym (none-is-any c.first_in_part-found.result (sym c.is_some.ensures ∙ c.if-is_some.false)) ∙ c.first_in_part-found.ensures d) c.loop-start.invariant.sought

pub loop-start-preserved : goal.loop-start-preserved
loop-start-preserved g c =
    let within = c.loop-start.invariant.within in
    record {
      within = omega (arith, c.len.ensures, c.args.self.now.keys.ok.0, c.if-index-len.false);
      sought = sought-more (λ d b. g.T.Test.passes c.args.test.now (level_state g.P.Part.state c.args.self.now d b)) c.args.self.now.keys.items c.args.first c.args.end c.loop-start.start c.loop-start.index c.index-start.result.now c.args.self.now.ordered c.loop-start-test.true
          (omega (arith, c.len.ensures, c.args.self.now.keys.ok.0, c.if-index-len.false)) (get_or_read c.args.self.now.keys.items c.loop-start.index c.index-start.result.now (omega (arith, c.len.ensures, c.args.self.now.keys.ok.0, c.if-index-len.false)) c.index-start.ensures 0)
          (λ d. sym (none-is-any c.first_in_part-found.result (sym c.is_some.ensures ∙ c.if-is_some.false)) ∙ c.first_in_part-found.ensures d) c.loop-start.invariant.sought;
    }

pub returns : goal.returns
returns g c = sought-end (λ d b. g.T.Test.passes c.args.test.now (level_state g.P.Part.state c.args.self.now d b)) c.args.self.now.keys.items c.args.first c.args.end c.loop-start.start c.loop-start.index (omega arith) c.loop-start.invariant.sought
