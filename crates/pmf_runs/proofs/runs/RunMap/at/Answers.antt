use Rattle.std.proofs.Common.{arith, sym, ◌∙◌}
use Rattle.pmf_runs.proofs.RunLemmas.{gap-is, root-is}
use Rattle.pmf_runs.proofs.runs.RunMap.at.Goals as goal

pub returns-in-None : goal.returns-in-None
returns-in-None g c = grind (arith, gap-is)

pub returns-in-Some : goal.returns-in-Some
returns-in-Some g c = c.state_of.ensures c.args.self.now.gap ∙ sym (root-is c.args.self.now c.in-Some.root c.args.place c.in-Some.is)
