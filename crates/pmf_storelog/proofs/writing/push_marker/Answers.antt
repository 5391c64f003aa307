-- The three pieces, one behind the other.
use Rattle.std.proofs.Common.{append_assoc}
use Rattle.pmf_storelog.specs.Canonical.{line_of_marker}
use Rattle.pmf_storelog.proofs.writing.push_marker.Goals as goal

pub returns-clause-text : goal.returns-clause-text
unfolding line_of_marker
returns-clause-text c =
    let two = rw c.in_ok-push_str.ensures.bytes at c.in_ok-push_field.ensures in let three = rw two at c.in_ok-push_str-2.ensures.bytes in simp append_assoc (simp append_assoc at three)
