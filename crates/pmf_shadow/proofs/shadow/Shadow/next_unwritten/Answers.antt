use Rattle.std.proofs.Common.{sym, ◌∙◌, ◌-◌, arith}
use Rattle.pmf_event.proofs.RangeLemmas.{first-passes, none-passes}
use Rattle.pmf_runs.specs.Lines.{line_has}
use Rattle.pmf_shadow.{specs.Bytes.{passing}, specs.Totals.{unwritten}}
use Rattle.pmf_shadow.proofs.shadow.Shadow.next_unwritten.Goals as goal

pub returns-in-None-clause-before : goal.returns-in-None-clause-before
returns-in-None-clause-before c = λ line low high.
    none-passes (line_has (passing unwritten c.args.self.now.bytes)) c.args.first (c.args.end - c.args.first) (sym c.least_line_with.ensures ∙ c.in-None.is) line low (omega arith)

pub returns-in-Some-clause-from : goal.returns-in-Some-clause-from
returns-in-Some-clause-from c = (first-passes (line_has (passing unwritten c.args.self.now.bytes)) c.args.first (c.args.end - c.args.first) c.in-Some.found (sym c.least_line_with.ensures ∙ c.in-Some.is)).from

pub returns-in-Some-clause-upto : goal.returns-in-Some-clause-upto
returns-in-Some-clause-upto c =
    let least = first-passes (line_has (passing unwritten c.args.self.now.bytes)) c.args.first (c.args.end - c.args.first) c.in-Some.found (sym c.least_line_with.ensures ∙ c.in-Some.is) in
    let high = least.within in omega arith

pub returns-in-Some-clause-before : goal.returns-in-Some-clause-before
returns-in-Some-clause-before c = (first-passes (line_has (passing unwritten c.args.self.now.bytes)) c.args.first (c.args.end - c.args.first) c.in-Some.found (sym c.least_line_with.ensures ∙ c.in-Some.is)).before
