use Rattle.pmf_shadow.{specs.Stretches.{line_lacks, line_has_but}, specs.Bytes.{passing}, proofs.StretchLemmas.{lines_by-is}}
use Rattle.pmf_shadow.proofs.shadow.Shadow.lines_counted.Goals as goal

pub returns-clause-but : goal.returns-clause-but
returns-clause-but g c =
    let lines = c.lines_of-first in
    lines_by-is (line_has_but (passing (g.T.Test.passes c.args.test.now) c.args.self.now.bytes) (passing (g.U.Test.passes c.args.other.now) c.args.self.now.bytes)) c.args.span.now lines.result.0 lines.result.1 c.lines_left-but.result
    lines.ensures.first lines.ensures.end c.lines_left-but.ensures

pub returns-clause-without : goal.returns-clause-without
returns-clause-without g c =
    let lines = c.lines_of-first in
    lines_by-is (line_lacks (passing (g.T.Test.passes c.args.test.now) c.args.self.now.bytes)) c.args.span.now lines.result.0 lines.result.1 c.lines_without-without.result lines.ensures.first lines.ensures.end c.lines_without-without.ensures
