use Rattle.std.proofs.Common.{◌-◌, ◌∙◌, arith}
use Rattle.pmf_runs.{proofs.SkipLemmas.{first-empty}, specs.Runs.{passing}, proofs.AskingLemmas.{first-law}, proofs.RunAskingLemmas.{passing-is, gap-asked, root-asked}}
use Rattle.pmf_runs.proofs.runs.RunMap.first_where.Goals as goal

pub returns-in-None : goal.returns-in-None
returns-in-None g c =
    c.first_of_run.ensures
    ∙ gap-asked first-law (g.T.Test.passes c.args.test.now) (passing (g.T.Test.passes c.args.test.now) c.args.self.now) c.args.self.now c.passes.result c.args.first (c.args.end - c.args.first) (passing-is (g.T.Test.passes c.args.test.now) c.args.self.now) c.passes.ensures c.in-None.is

pub returns-in-Some : goal.returns-in-Some
returns-in-Some g c =
    c.find_first.ensures c.args.self.now.gap
    ∙ root-asked first-law (g.T.Test.passes c.args.test.now) (passing (g.T.Test.passes c.args.test.now) c.args.self.now) c.args.self.now c.in-Some.root c.args.first (c.args.end - c.args.first) (passing-is (g.T.Test.passes c.args.test.now) c.args.self.now) c.in-Some.is

pub returns-then-end-first : goal.returns-then-end-first
returns-then-end-first g c = grind (arith, first-empty)
