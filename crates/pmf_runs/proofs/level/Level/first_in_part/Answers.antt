use Rattle.std.proofs.Common.{◌-◌, ◌∙◌, ap, arith}
use Rattle.pmf_event.specs.Ranges.{first_from}
use Rattle.pmf_runs.{specs.Walks.{end_of}, proofs.LevelLemmas.{level-bound}, proofs.LevelAskingLemmas.{start-asked, start-none}}
use Rattle.pmf_runs.proofs.level.Level.first_in_part.Goals as goal

pub index-part-requires : goal.index-part-requires
index-part-requires g c = grind (arith, level-bound)

pub returns-then-not-may_pass : goal.returns-then-not-may_pass
returns-then-not-may_pass g c =
    start-none g.P.Part.state (g.T.Test.passes c.args.test.now) c.args.self.now c.index-part.result.now c.args.end c.args.start c.args.index c.index-part.ensures c.requires.some c.requires.rank
    (λ d b. c.may_pass.ensures c.if-not-may_pass.true _ (c.summary.ensures d b))

pub returns : goal.returns
returns g c = λ d.
    let ends = c.end_of.ensures ∙ ap (λ ks. end_of ks c.args.index c.args.end) c.deref.ensures.value in
    c.first_where.ensures d
    ∙ ap (λ n. first_from (λ b. g.T.Test.passes c.args.test.now (g.P.Part.state c.index-part.result.now d b)) c.args.start (n - c.args.start)) ends
    ∙ start-asked g.P.Part.state (g.T.Test.passes c.args.test.now) c.args.self.now c.index-part.result.now c.args.end c.args.start c.args.index c.index-part.ensures c.requires.some c.requires.rank d
