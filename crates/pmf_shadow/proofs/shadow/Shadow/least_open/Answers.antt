use Rattle.std.proofs.Common.{◌∙◌}
use Rattle.pmf_shadow.proofs.QuestionLemmas.{exposed-same}
use Rattle.pmf_shadow.proofs.shadow.Shadow.least_open.Goals as goal

pub returns : goal.returns
returns c = λ told es p stands. c.first_in.ensures ∙ exposed-same c.args.self.now told es p stands c.args.span
