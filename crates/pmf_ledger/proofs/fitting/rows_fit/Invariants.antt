use Rattle.std.proofs.Common.{take, All}
use Rattle.pmf_ledger.specs.ReportTold.{FitsRow}
use Rattle.pmf_ledger.proofs.fitting.rows_fit.Given as goal

abbrev pub invariant-loop-row : goal.invariant-loop-row
invariant-loop-row l = All FitsRow (take l.row-index l.rows)
