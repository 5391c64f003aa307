use Rattle.std.proofs.Common.{arith}
use Rattle.pmf_cause.proofs.WatchLemmas.{line_kept, line_there}
use Rattle.pmf_cause.proofs.watch.put_line.Goals as goal

pub returns-clause-has : goal.returns-clause-has
returns-clause-has c =
    let line = c.line_of-line.ensures in
    let end = c.saturating_add.ensures in
    let fits = c.ranges.byte.fits in
    line_there c.args.lines.now c.change.new.self c.args.byte _ _ line (omega arith) c.in_ok-change.ensures.ok

pub returns-clause-kept : goal.returns-clause-kept
returns-clause-kept c = line_kept c.args.lines.now c.change.new.self _ _ c.in_ok-change.ensures.ok
