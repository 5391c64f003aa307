use Rattle.std.proofs.Common.{◌∙◌, sym}
use Rattle.pmf_lint.proofs.LeavingLemmas.{not_unfenced, unfenced_at}
use Rattle.pmf_lint.proofs.leaving.Left.is_unfenced.Goals as goal

pub returns-then-is_unwritten : goal.returns-then-is_unwritten
returns-then-is_unwritten c = λ es are within. not_unfenced es c.args.index (sym (c.is_unwritten.ensures es are within) ∙ c.if-is_unwritten.true)

pub returns-then-index-len : goal.returns-then-index-len
returns-then-index-len c = λ es are within.
    c.index.ensures ∙ unfenced_at es c.args.self.now c.args.index c.index.result.now are within (sym (c.is_unwritten.ensures es are within) ∙ c.if-is_unwritten.false)
