use Rattle.std.proofs.Common.{◌∙◌, ◌-◌}
use Rattle.pmf_event.specs.Ranges.{first_from}
use Rattle.pmf_runs.proofs.FlagLemmas.{asked-plain, asked-given}
use Rattle.pmf_runs.proofs.flagged.FlaggedPart.first_where.Goals as goal

pub returns-in-None : goal.returns-in-None
returns-in-None g c = λ d. c.first_where.ensures d ∙ asked-plain g.S.State.flagged g.P.Part.state (λ s. first_from (λ b. g.T.Test.passes c.args.test.now (s d b)) c.args.first (c.args.end - c.args.first)) c.args.self.now c.in-None.is

pub returns-in-Some : goal.returns-in-Some
returns-in-Some g c = λ d. c.first_where-in-Some.ensures d ∙ asked-given g.S.State.flagged g.P.Part.state (λ s. first_from (λ b. g.T.Test.passes c.args.test.now (s d b)) c.args.first (c.args.end - c.args.first)) c.args.self.now c.in-Some.flag c.in-Some.is
