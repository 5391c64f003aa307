use Rattle.std.proofs.Common.{◌+◌, ◌-◌, length}
use Rattle.pmf_ledger.proofs.lemmas.ScanLemmas.{Scanned}
use Rattle.pmf_ledger.proofs.joining.least_differing.Given as goal

abbrev pub invariant-loop-i : goal.invariant-loop-i
invariant-loop-i l = record { scanned : Scanned l.first l.second l.i l.j }

abbrev pub decreases-loop-i : goal.decreases-loop-i
decreases-loop-i l = length l.first - l.i + (length l.second - l.j)
