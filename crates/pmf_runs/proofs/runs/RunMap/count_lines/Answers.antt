use Rattle.std.proofs.Common.{◌-◌, ◌∙◌, ap}
use Rattle.pmf_runs.{specs.declared.walk.Counted.{Counted}, specs.Runs.{passing}, proofs.AskingLemmas.{lines-law}, proofs.LineCountLemmas.{lines-counted}, proofs.RunAskingLemmas.{passing-is, gap-asked, root-asked}}
use Rattle.pmf_runs.proofs.runs.RunMap.count_lines.Goals as goal

pub returns-in-None : goal.returns-in-None
returns-in-None g c =
    ap (λ (x : Counted). x.count) (c.lines_of_run.ensures.is
    ∙ ap (λ count. count (record { count = 0; next = 0 }))
    (gap-asked lines-law (g.T.Test.passes c.args.test.now) (passing (g.T.Test.passes c.args.test.now) c.args.self.now) c.args.self.now c.passes.result c.args.first (c.args.end - c.args.first) (passing-is (g.T.Test.passes c.args.test.now) c.args.self.now) c.passes.ensures c.in-None.is))
    ∙ lines-counted (passing (g.T.Test.passes c.args.test.now) c.args.self.now) c.args.first c.args.end c.requires.first c.requires.end

pub returns-in-Some : goal.returns-in-Some
returns-in-Some g c =
    ap (λ (x : Counted). x.count) (c.count_lines.ensures.is c.args.self.now.gap
    ∙ ap (λ count. count (record { count = 0; next = 0 }))
    (root-asked lines-law (g.T.Test.passes c.args.test.now) (passing (g.T.Test.passes c.args.test.now) c.args.self.now) c.args.self.now c.in-Some.root c.args.first (c.args.end - c.args.first) (passing-is (g.T.Test.passes c.args.test.now) c.args.self.now) c.in-Some.is))
    ∙ lines-counted (passing (g.T.Test.passes c.args.test.now) c.args.self.now) c.args.first c.args.end c.requires.first c.requires.end
