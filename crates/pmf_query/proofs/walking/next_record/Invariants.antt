use Rattle.std.proofs.Common.{length, ◌-◌, ◌≡◌, ◌≤◌, take}
use Rattle.pmf_storelog.specs.Separators.{records_of}
use Rattle.pmf_query.specs.Walking.{BeginsAnew}
use Rattle.pmf_query.proofs.walking.next_record.Given as goal

abbrev pub invariant-loop-at : goal.invariant-loop-at
invariant-loop-at l = record {
  within : l.at ≤ length l.log;
  from : l.start ≤ l.at;
  anew : BeginsAnew l.log l.at;
  same : records_of (take l.at l.log) ≡ records_of (take l.start l.log);
}

abbrev pub decreases-loop-at : goal.decreases-loop-at
decreases-loop-at l = length l.log - l.at
