use Rattle.std.proofs.Common.{◌-◌, ◌∙◌}
use Rattle.pmf_event.proofs.RangeLemmas.{first_from-same}
use Rattle.pmf_shadow.proofs.QuestionLemmas.{undurable-same}
use Rattle.pmf_shadow.proofs.shadow.Shadow.least_undurable.Goals as goal

pub returns : goal.returns
returns c = λ told es p stands. c.first_where.ensures ∙ first_from-same _ _ c.args.first (c.args.end - c.args.first) (λ b low high. undurable-same c.args.self.now told es p stands b)
