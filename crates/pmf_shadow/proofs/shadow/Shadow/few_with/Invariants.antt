use Rattle.std.proofs.Common.{◌≡◌, ◌-◌, ◌≤◌}
use Rattle.pmf_event.specs.Ranges.{count_from}
use Rattle.pmf_runs.specs.Lines.{line_has}
use Rattle.pmf_shadow.specs.Bytes.{passing}
use Rattle.pmf_shadow.proofs.shadow.Shadow.few_with.Given as goal

abbrev pub invariant-loop-count : goal.invariant-loop-count
invariant-loop-count g l = record {
  from : l.first ≤ l.line;
  upto : l.line ≤ l.end;
  count : l.count ≡ count_from (line_has (passing (g.T.Test.passes l.test) l.self.bytes)) l.first (l.line - l.first);
}

abbrev pub decreases-loop-count : goal.decreases-loop-count
decreases-loop-count g l = 16 - l.count
