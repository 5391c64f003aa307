use Rattle.std.proofs.Common.{sym, ◌∙◌}
use Rattle.pmf_shadow.specs.Bytes.{passing}
use Rattle.pmf_shadow.proofs.StretchLemmas.{but-more}
use Rattle.pmf_shadow.proofs.shadow.Shadow.least_line_but.Goals as goal

pub loop-without-preserved : goal.loop-without-preserved
loop-without-preserved g c =
    but-more (passing (g.T.Test.passes c.args.test.now) c.args.self.now.bytes) (passing (g.U.Test.passes c.args.other.now) c.args.self.now.bytes) c.args.first c.args.end c.loop-without.line
    c.in-Some.without c.in-Some-least_line_with.found c.loop-without.invariant (sym c.in-Some.is ∙ c.least_line_without.ensures) (sym c.in-Some-least_line_with.is ∙ c.least_line_with.ensures)
