use Rattle.std.proofs.Common.{◌∙◌}
use Rattle.pmf_lint.proofs.LeavingLemmas.{unwritten_at}
use Rattle.pmf_lint.proofs.leaving.Left.is_unwritten.Goals as goal

pub returns-then-index-len : goal.returns-then-index-len
returns-then-index-len c = λ es are within. c.index.ensures ∙ unwritten_at es c.args.self.now c.args.index c.index.result.now are within
