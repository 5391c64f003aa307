use Rattle.std.proofs.Common.{◌/◌, arith}
use Rattle.pmf_runs.specs.Lines.{line_has}
use Rattle.pmf_event.specs.declared.span.TheConstants.{ADDRESS_LIMIT}
use Rattle.pmf_shadow.{specs.Bytes.{passing}, specs.Totals.{unwritten}, proofs.TotalsLemmas.{flushed_totals, part_upto}}
use Rattle.pmf_shadow.proofs.shadow.Shadow.count_flush.Goals as goal

pub overflow_sub-result : goal.overflow_sub-result
overflow_sub-result c =
    let room = c.requires.room in
    part_upto (line_has (passing unwritten c.args.self.now.bytes)) c.args.first c.args.end (ADDRESS_LIMIT / 64) c.args.totals.unwritten c.count_in-unwritten.result c.requires.ordered (omega arith) c.requires.totals.unwritten c.count_in-unwritten.ensures

pub returns : goal.returns
returns c = λ new changes.
    flushed_totals c.args.self.now.bytes new c.args.self.now.fences c.args.first c.args.end c.count_in-unwritten.result _ c.args.totals changes c.requires.totals c.requires.ordered c.requires.room c.count_in-unwritten.ensures
