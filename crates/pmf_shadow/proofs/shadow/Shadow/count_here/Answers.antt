use Rattle.std.proofs.Common.{◌∙◌, sym}
use Rattle.pmf_runs.specs.Lines.{line_has}
use Rattle.pmf_shadow.specs.Bytes.{passing}
use Rattle.pmf_shadow.proofs.TotalsLemmas.{count_single, count_lacking}
use Rattle.pmf_shadow.proofs.shadow.Shadow.count_here.Goals as goal

pub returns-then-has_on : goal.returns-then-has_on
returns-then-has_on g c = count_single (line_has (passing (g.T.Test.passes c.args.test.now) c.args.self.now.bytes)) c.args.first c.args.end c.if-end-first-ne1.false (sym c.has_on.ensures ∙ c.if-has_on.true)

pub returns : goal.returns
returns g c = count_lacking (line_has (passing (g.T.Test.passes c.args.test.now) c.args.self.now.bytes)) c.args.first c.args.end c.if-end-first-ne1.false (sym c.has_on.ensures ∙ c.if-has_on.false)
