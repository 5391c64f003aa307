use Rattle.std.proofs.Common.{◌-◌}
use Rattle.pmf_shadow.specs.Bytes.{passing}
use Rattle.pmf_shadow.{specs.Stretches.{line_lacks}, proofs.StretchLemmas.{NoneBefore}}
use Rattle.pmf_shadow.proofs.shadow.Shadow.least_line_without.Given as goal

abbrev pub invariant-loop-line : goal.invariant-loop-line
invariant-loop-line g l = NoneBefore (line_lacks (passing (g.T.Test.passes l.test) l.self.bytes)) l.first l.end l.line

abbrev pub decreases-loop-line : goal.decreases-loop-line
decreases-loop-line g l = l.end - l.line
