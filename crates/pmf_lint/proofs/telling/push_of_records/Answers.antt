-- The warnings, one behind the other.
use Rattle.std.proofs.Common.{append_assoc}
use Rattle.pmf_lint.specs.LintText.{lines_of_records}
use Rattle.pmf_lint.proofs.telling.push_of_records.Goals as goal

pub returns : goal.returns
unfolding lines_of_records
returns c =
    let two = rw c.in_ok-push_warning.ensures at c.in_ok-push_warning-2.ensures in
    let three = rw two at c.in_ok-push_warning-3.ensures in
    let four = rw three at c.push_warning-4.ensures in
    simp append_assoc (simp append_assoc at four)
