use Rattle.std.proofs.Common.{◌∙◌, ap, ℕ, Option, is_some}
use Rattle.pmf_shadow.proofs.QuestionLemmas.{checked-same}
use Rattle.pmf_shadow.proofs.shadow.Shadow.written_included.Goals as goal

pub returns : goal.returns
returns c = λ told es p stands. c.is_some.ensures ∙ ap (λ (o : Option ℕ). is_some o) (c.first_in.ensures ∙ checked-same c.args.self.now told es p stands c.args.span)
