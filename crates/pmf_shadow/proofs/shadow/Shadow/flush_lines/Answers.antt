use Rattle.std.proofs.Common.{◌∙◌}
use Rattle.pmf_shadow.proofs.QuestionLemmas.{pending-same, clean-same}
use Rattle.pmf_shadow.proofs.shadow.Shadow.flush_lines.Goals as goal

pub returns-in-None-clause-pending : goal.returns-in-None-clause-pending
returns-in-None-clause-pending c = λ told es p stands. c.lines_apart-pending.ensures.but ∙ pending-same c.args.self.now told es p stands c.args.span

pub returns-in-None-clause-clean : goal.returns-in-None-clause-clean
returns-in-None-clause-clean c = λ told es p stands. c.lines_apart-pending.ensures.without ∙ clean-same c.args.self.now told es p stands c.args.span

pub returns-in-Some-clause-pending : goal.returns-in-Some-clause-pending
returns-in-Some-clause-pending c = λ told es p stands. c.lines_counted-pending.ensures.but ∙ pending-same c.args.self.now told es p stands c.args.span

pub returns-in-Some-clause-clean : goal.returns-in-Some-clause-clean
returns-in-Some-clause-clean c = λ told es p stands. c.lines_counted-pending.ensures.without ∙ clean-same c.args.self.now told es p stands c.args.span
