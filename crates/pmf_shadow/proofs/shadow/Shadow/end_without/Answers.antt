use Rattle.std.proofs.Common.{◌∙◌, sym, arith}
use Rattle.pmf_shadow.{specs.Stretches.{line_lacks}, specs.Bytes.{passing}, proofs.StretchLemmas.{found-below}, proofs.TotalsLemmas.{lacks_some, lacks_none}}
use Rattle.pmf_shadow.proofs.shadow.Shadow.end_without.Goals as goal

pub returns-in-None-clause-has : goal.returns-in-None-clause-has
returns-in-None-clause-has g c = lacks_none (passing (g.T.Test.passes c.args.test.now) c.args.self.now.bytes) c.args.first c.args.end (sym c.in-None.is ∙ c.least_line_without.ensures)

pub returns-in-Some-clause-from : goal.returns-in-Some-clause-from
returns-in-Some-clause-from g c = (found-below (line_lacks (passing (g.T.Test.passes c.args.test.now) c.args.self.now.bytes)) c.args.first c.args.end c.in-Some.line (sym c.in-Some.is ∙ c.least_line_without.ensures)).0

pub returns-in-Some-clause-upto : goal.returns-in-Some-clause-upto
returns-in-Some-clause-upto g c =
    let below = found-below (line_lacks (passing (g.T.Test.passes c.args.test.now) c.args.self.now.bytes)) c.args.first c.args.end c.in-Some.line (sym c.in-Some.is ∙ c.least_line_without.ensures) in
    let high = below.1 in omega arith

pub returns-in-Some-clause-has : goal.returns-in-Some-clause-has
returns-in-Some-clause-has g c = lacks_some (passing (g.T.Test.passes c.args.test.now) c.args.self.now.bytes) c.args.first c.args.end c.in-Some.line (sym c.in-Some.is ∙ c.least_line_without.ensures)
