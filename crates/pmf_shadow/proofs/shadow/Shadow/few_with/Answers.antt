use Rattle.std.proofs.Common.{◌∙◌, sym, arith}
use Rattle.pmf_runs.specs.Lines.{line_has}
use Rattle.pmf_shadow.specs.Bytes.{passing}
use Rattle.pmf_shadow.proofs.{AskLemmas.{count_none}, StretchLemmas.{found-below}, TotalsLemmas.{count_found, count_rest}}
use Rattle.pmf_shadow.proofs.shadow.Shadow.few_with.Goals as goal

pub loop-count-init : goal.loop-count-init
loop-count-init g c =
    let order = c.requires.ordered in
    record { from = omega arith; upto = order; count = count_none (line_has (passing (g.T.Test.passes c.args.test.now) c.args.self.now.bytes)) c.args.first }

pub returns-in-None : goal.returns-in-None
returns-in-None g c =
    let inv = c.loop-count.invariant in
    count_rest (line_has (passing (g.T.Test.passes c.args.test.now) c.args.self.now.bytes)) c.args.first c.loop-count.line c.args.end c.loop-count.count inv.from inv.upto inv.count (sym c.in-None.is ∙ c.least_line_with.ensures)

pub overflow_add-line : goal.overflow_add-line
overflow_add-line g c =
    let below = found-below (line_has (passing (g.T.Test.passes c.args.test.now) c.args.self.now.bytes)) c.loop-count.line c.args.end c.in-Some.found (sym c.in-Some.is ∙ c.least_line_with.ensures) in
    let room = c.requires.room in
    let high = below.1 in
    omega arith

pub loop-count-preserved : goal.loop-count-preserved
loop-count-preserved g c =
    let inv = c.loop-count.invariant in
    let from = inv.from in
    let next = sym c.in-Some.is ∙ c.least_line_with.ensures in
    let below = found-below (line_has (passing (g.T.Test.passes c.args.test.now) c.args.self.now.bytes)) c.loop-count.line c.args.end c.in-Some.found next in
    let low = below.0 in
    record {
      from = omega arith;
      upto = below.1;
      count = count_found (line_has (passing (g.T.Test.passes c.args.test.now) c.args.self.now.bytes)) c.args.first c.loop-count.line c.args.end c.in-Some.found c.loop-count.count from inv.count next;
    }
