use Rattle.std.proofs.Common.{◌-◌, ◌∙◌, arith}
use Rattle.pmf_runs.{proofs.SkipLemmas.{least-empty}, specs.Runs.{keyed}, proofs.AskingLemmas.{least-law}, proofs.RunAskingLemmas.{keyed-is, gap-asked, root-asked}}
use Rattle.pmf_runs.proofs.runs.RunMap.least_key.Goals as goal

pub returns-in-None : goal.returns-in-None
returns-in-None g c =
    c.least_of_run.ensures
    ∙ gap-asked least-law (g.K.Key.key c.args.key.now) (keyed (g.K.Key.key c.args.key.now) c.args.self.now) c.args.self.now c.key.result c.args.first (c.args.end - c.args.first) (keyed-is (g.K.Key.key c.args.key.now) c.args.self.now) c.key.ensures c.in-None.is

pub returns-in-Some : goal.returns-in-Some
returns-in-Some g c =
    c.find_least.ensures c.args.self.now.gap
    ∙ root-asked least-law (g.K.Key.key c.args.key.now) (keyed (g.K.Key.key c.args.key.now) c.args.self.now) c.args.self.now c.in-Some.root c.args.first (c.args.end - c.args.first) (keyed-is (g.K.Key.key c.args.key.now) c.args.self.now) c.in-Some.is

pub returns-then-end-first : goal.returns-then-end-first
returns-then-end-first g c = grind (arith, least-empty)
