-- What is written, joined in another order.
use Rattle.std.proofs.Common.{append_assoc}
use Rattle.pmf_lint.specs.LintText.{line_of_counts}
use Rattle.pmf_lint.proofs.telling.push_counts.Goals as goal

pub returns : goal.returns
unfolding line_of_counts
returns c = simp append_assoc c.write.ensures.bytes
