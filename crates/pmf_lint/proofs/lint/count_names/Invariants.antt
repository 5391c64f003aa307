use Rattle.std.proofs.Common.{length, ◌-◌, ◌≤◌, take}
use Rattle.pmf_storelog.specs.Separators.{records_of}
use Rattle.pmf_query.specs.Walking.{BeginsAnew}
use Rattle.pmf_lint.specs.Counting.{Tallies}
use Rattle.pmf_lint.proofs.lint.count_names.Given as goal

abbrev pub invariant-loop-found : goal.invariant-loop-found
invariant-loop-found l = record {
  within : l.start ≤ length l.log;
  anew : BeginsAnew l.log l.start;
  few : l.counts.records ≤ l.start;
  tallies : Tallies l.counts (records_of (take l.start l.log));
}

abbrev pub decreases-loop-found : goal.decreases-loop-found
decreases-loop-found l = length l.log - l.start
