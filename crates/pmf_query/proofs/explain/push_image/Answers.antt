-- The two pieces, one behind the other.
use Rattle.std.proofs.Common.{append_assoc}
use Rattle.pmf_query.specs.Explanation.{text_of_image}
use Rattle.pmf_query.proofs.explain.push_image.Goals as goal

pub returns : goal.returns
unfolding text_of_image
returns c =
    let both = rw c.in_ok-write.ensures.bytes at c.push_line.ensures in
    simp append_assoc (simp append_assoc at both)
