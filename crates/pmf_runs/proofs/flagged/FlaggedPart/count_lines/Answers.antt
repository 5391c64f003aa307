use Rattle.std.proofs.Common.{◌∙◌, ◌-◌}
use Rattle.pmf_runs.{specs.Lines.{counted_from}, proofs.FlagLemmas.{asked-plain, asked-given}}
use Rattle.pmf_runs.proofs.flagged.FlaggedPart.count_lines.Goals as goal

pub returns-in-None-clause-is : goal.returns-in-None-clause-is
returns-in-None-clause-is g c = λ d. c.count_lines.ensures.is d ∙ asked-plain g.S.State.flagged g.P.Part.state (λ s. counted_from (λ b. g.T.Test.passes c.args.test.now (s d b)) c.args.first (c.args.end - c.args.first) c.args.so_far) c.args.self.now c.in-None.is

pub returns-in-Some-clause-is : goal.returns-in-Some-clause-is
returns-in-Some-clause-is g c = λ d. c.count_lines-in-Some.ensures.is d ∙ asked-given g.S.State.flagged g.P.Part.state (λ s. counted_from (λ b. g.T.Test.passes c.args.test.now (s d b)) c.args.first (c.args.end - c.args.first) c.args.so_far) c.args.self.now c.in-Some.flag c.in-Some.is
