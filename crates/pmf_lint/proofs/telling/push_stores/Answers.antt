-- The two pieces, one behind the other.
use Rattle.std.proofs.Common.{append_assoc}
use Rattle.pmf_lint.specs.LintText.{line_of_stores}
use Rattle.pmf_lint.proofs.telling.push_stores.Goals as goal

pub returns : goal.returns
unfolding line_of_stores
returns c =
    let both = rw c.in_ok-write.ensures.bytes at c.write-2.ensures.bytes in
    simp append_assoc (simp append_assoc at both)
