use Rattle.std.proofs.Common.{◌-◌}
use Rattle.pmf_shadow.specs.Bytes.{passing}
use Rattle.pmf_shadow.{specs.Stretches.{line_has_but}, proofs.StretchLemmas.{NoneBefore}}
use Rattle.pmf_shadow.proofs.shadow.Shadow.least_line_but.Given as goal

abbrev pub invariant-loop-without : goal.invariant-loop-without
invariant-loop-without g l =
    NoneBefore (line_has_but (passing (g.T.Test.passes l.test) l.self.bytes) (passing (g.U.Test.passes l.other) l.self.bytes)) l.first l.end l.line

abbrev pub decreases-loop-without : goal.decreases-loop-without
decreases-loop-without g l = l.end - l.line
