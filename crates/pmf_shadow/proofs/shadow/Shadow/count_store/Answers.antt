use Rattle.std.proofs.Common.{arith}
use Rattle.pmf_shadow.{specs.Totals.{undurable_after, unwritten}, proofs.TotalsLemmas.{stored_totals, stored_fits}}
use Rattle.pmf_shadow.proofs.shadow.Shadow.count_store.Goals as goal

pub overflow_sub-result-2 : goal.overflow_sub-result-2
overflow_sub-result-2 c =
    let lines = c.lines_of-first in
    let ordered = lines.ensures.ordered in
    (stored_fits (undurable_after c.args.self.now.fences) c.args.self.now.bytes lines.result.0 lines.result.1 c.args.totals.undurable c.count_here-undurable.result (omega arith) lines.ensures.room c.requires.undurable c.count_here-undurable.ensures).0

pub overflow_add-result : goal.overflow_add-result
overflow_add-result c =
    let lines = c.lines_of-first in
    let ordered = lines.ensures.ordered in
    let fits = (stored_fits (undurable_after c.args.self.now.fences) c.args.self.now.bytes lines.result.0 lines.result.1 c.args.totals.undurable c.count_here-undurable.result (omega arith) lines.ensures.room c.requires.undurable c.count_here-undurable.ensures).1 in omega arith

pub overflow_sub-result-4 : goal.overflow_sub-result-4
overflow_sub-result-4 c =
    let lines = c.lines_of-first in
    let ordered = lines.ensures.ordered in
    (stored_fits unwritten c.args.self.now.bytes lines.result.0 lines.result.1 c.args.totals.unwritten c.count_here-unwritten.result (omega arith) lines.ensures.room c.requires.unwritten c.count_here-unwritten.ensures).0

pub overflow_add-result-2 : goal.overflow_add-result-2
overflow_add-result-2 c =
    let lines = c.lines_of-first in
    let ordered = lines.ensures.ordered in
    let fits = (stored_fits unwritten c.args.self.now.bytes lines.result.0 lines.result.1 c.args.totals.unwritten c.count_here-unwritten.result (omega arith) lines.ensures.room c.requires.unwritten c.count_here-unwritten.ensures).1 in omega arith

pub returns : goal.returns
returns c = λ place new changes.
    let lines = c.lines_of-first in
    stored_totals c.args.self.now.bytes new place c.args.self.now.fences c.args.span.now.first c.args.span.now.size lines.result.0 lines.result.1 c.count_here-undurable.result c.count_here-unwritten.result _ c.args.totals changes c.requires
    lines.ensures.valid.not_empty lines.ensures.first lines.ensures.end lines.ensures.room c.count_here-undurable.ensures c.count_here-unwritten.ensures
