use Rattle.std.proofs.Common.{length, ◌-◌, ◌≤◌, ◌<◌, take}
use Rattle.pmf_storelog.specs.Separators.{records_of}
use Rattle.pmf_query.specs.{Walking.{BeginsAnew}, Passing.{HasPassed}}
use Rattle.pmf_query.proofs.locate.find_event.Given as goal

abbrev pub invariant-loop-found : goal.invariant-loop-found
invariant-loop-found l = record {
  within : l.start ≤ length l.log;
  anew : BeginsAnew l.log l.start;
  passed : HasPassed l.section (records_of (take l.start l.log)) l.passed;
  few : l.passed.records ≤ l.start;
  fewer : l.passed.events ≤ l.passed.records;
  below : l.passed.events < l.place;
}

abbrev pub decreases-loop-found : goal.decreases-loop-found
decreases-loop-found l = length l.log - l.start
