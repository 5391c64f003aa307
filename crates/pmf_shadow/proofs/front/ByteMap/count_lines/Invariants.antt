use Rattle.std.proofs.Common.{◌≡◌, ◌-◌, ◌≤◌}
use Rattle.pmf_event.specs.Ranges.{count_from}
use Rattle.pmf_runs.specs.Lines.{line_has}
use Rattle.pmf_shadow.specs.Bytes.{passing}
use Rattle.pmf_shadow.proofs.front.ByteMap.count_lines.Given as goal

abbrev pub invariant-loop-line : goal.invariant-loop-line
invariant-loop-line g l = record {
  from : l.first ≤ l.line;
  upto : l.line ≤ l.end;
  few : l.count ≤ l.line;
  count : l.count ≡ count_from (line_has (passing (g.T.Test.passes l.test) l.self)) l.first (l.line - l.first);
}

abbrev pub decreases-loop-line : goal.decreases-loop-line
decreases-loop-line g l = l.end - l.line
