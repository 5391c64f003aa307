use Rattle.std.proofs.Common.{take, None}
use Rattle.pmf_verdict.specs.Explained.{Explains}
use Rattle.pmf_verdict.proofs.explaining.first_certificate.Given as goal

abbrev pub invariant-loop-row : goal.invariant-loop-row
invariant-loop-row l = Explains (take l.row-index l.rows) l.place None
