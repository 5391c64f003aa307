use Rattle.std.proofs.Common.{length, ◌-◌, ◌≤◌, take}
use Rattle.pmf_storelog.specs.Separators.{records_of}
use Rattle.pmf_query.specs.{Standing.{HasWalked}, Walking.{BeginsAnew}}
use Rattle.pmf_query.proofs.standing.Standing.of_faultless.Given as goal

abbrev pub invariant-loop-found : goal.invariant-loop-found
invariant-loop-found l = record {
  within : l.start ≤ length l.log;
  anew : BeginsAnew l.log l.start;
  walked : HasWalked l.log (records_of (take l.start l.log)) l.walked;
  few : l.walked.records ≤ l.start;
}

abbrev pub decreases-loop-found : goal.decreases-loop-found
decreases-loop-found l = length l.log - l.start
