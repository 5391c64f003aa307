use Rattle.std.proofs.Common.{◌∙◌}
use Rattle.pmf_runs.proofs.FlagLemmas.{at-is}
use Rattle.pmf_runs.proofs.flagged.FlaggedPart.at.Goals as goal

pub returns : goal.returns
returns g c = λ d. c.given.ensures ∙ at-is g.S.State.flagged g.P.Part.state c.args.self.now c.at.result d c.args.place (c.at.ensures d)
