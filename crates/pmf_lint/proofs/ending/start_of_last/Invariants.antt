use Rattle.std.proofs.Common.{◌≡◌, ◌≤◌, [], ◌∷◌, length, drop}
use Rattle.pmf_storelog.specs.Separators.{parts_of}
use Rattle.pmf_lint.proofs.ending.start_of_last.Given as goal

abbrev pub invariant-loop-start : goal.invariant-loop-start
invariant-loop-start l = record {
  within : l.start ≤ length l.log;
  alone : parts_of (drop l.start l.log) ≡ drop l.start l.log ∷ [];
}

abbrev pub decreases-loop-start : goal.decreases-loop-start
decreases-loop-start l = l.start
