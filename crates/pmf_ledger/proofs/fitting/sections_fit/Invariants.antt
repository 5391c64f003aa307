use Rattle.std.proofs.Common.{take, All}
use Rattle.pmf_ledger.specs.ReportTold.{FitsSection}
use Rattle.pmf_ledger.proofs.fitting.sections_fit.Given as goal

abbrev pub invariant-loop-verdict : goal.invariant-loop-verdict
invariant-loop-verdict l = All FitsSection (take l.verdict-index l.verdicts)
