use Rattle.std.proofs.Common.{append_assoc}
use Rattle.pmf_ledger.proofs.block_lines.BlockFaultDisplay.fmt.Goals as goal

pub returns-in-OutOfOrder-clause-writes : goal.returns-in-OutOfOrder-clause-writes
returns-in-OutOfOrder-clause-writes g c = λ plain ok.
    let written = c.write-in-OutOfOrder.ensures.writes plain ok in rw c.in-OutOfOrder.is (simp append_assoc written)
