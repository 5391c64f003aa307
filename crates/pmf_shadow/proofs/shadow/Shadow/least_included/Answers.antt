use Rattle.std.proofs.Common.{◌∙◌}
use Rattle.pmf_shadow.proofs.QuestionLemmas.{included-same}
use Rattle.pmf_shadow.proofs.shadow.Shadow.least_included.Goals as goal

pub returns : goal.returns
returns c = λ told es p stands. c.first_in.ensures ∙ included-same c.args.self.now told es p stands c.args.span
