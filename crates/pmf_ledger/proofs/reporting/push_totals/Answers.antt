use Rattle.std.proofs.Common.{append_assoc}
use Rattle.pmf_ledger.specs.Report.{text_of_totals}
use Rattle.pmf_ledger.proofs.reporting.push_totals.Goals as goal

pub returns : goal.returns
unfolding text_of_totals
returns c = let both = rw c.in_ok-write.ensures.bytes at c.push_counts.ensures in simp append_assoc (simp append_assoc at both)
