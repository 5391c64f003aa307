use Rattle.std.proofs.Common.{◌∙◌, ap}
use Rattle.pmf_runs.proofs.FlagLemmas.{plain-is, given-is}
use Rattle.pmf_runs.proofs.flagged.FlaggedPart.summary.Goals as goal

pub returns-in-None : goal.returns-in-None
returns-in-None g c = λ d b. ap (g.S.State.covers c.summary.result) (plain-is g.S.State.flagged g.P.Part.state c.args.self.now d b c.in-None.is) ∙ c.summary.ensures d b

pub returns-in-Some : goal.returns-in-Some
returns-in-Some g c = λ d b. ap (g.S.State.covers c.summary_flagged.result) (given-is g.S.State.flagged g.P.Part.state c.args.self.now c.in-Some.flag d b c.in-Some.is) ∙ c.summary_flagged.ensures (g.P.Part.state c.args.self.now.part d b) (c.summary-in-Some.ensures d b)
