use Rattle.std.proofs.Common.{sym, ◌∙◌}
use Rattle.pmf_runs.proofs.FlagLemmas.{at-is}
use Rattle.pmf_runs.proofs.flagged.FlaggedPart.tail.Goals as goal

pub returns-in-Some : goal.returns-in-Some
returns-in-Some g c = λ d b le. sym (at-is g.S.State.flagged g.P.Part.state c.args.self.now c.in-Some.state d b (sym (c.in-Some.ensures d b le))) ∙ sym c.given.ensures
