use Rattle.std.proofs.Common.{◌+◌, ◌-◌, ◌≤◌, ◌++◌, ℕ, List, length, take}
use Rattle.pmf_storelog.specs.Progress.{HasParsed}
use Rattle.pmf_storelog.proofs.progress.Progress.read_ended.Given as goal

abbrev pub invariant-loop-len : goal.invariant-loop-len
invariant-loop-len l = record {
  within : l.start ≤ length l.piece;
  grows : l.self.tally.records ≤ l.initial.self.tally.records + l.start;
  parsed : (run : ℕ) (bytes : List ℕ) → HasParsed run bytes l.initial.self → HasParsed run (bytes ++ take l.start l.piece) l.self;
}

abbrev pub decreases-loop-len : goal.decreases-loop-len
decreases-loop-len l = length l.piece - l.start
