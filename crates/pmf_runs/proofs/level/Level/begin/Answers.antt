use Rattle.std.proofs.Common.{arith}
use Rattle.pmf_runs.proofs.RunRules.{level_begun}
use Rattle.pmf_runs.proofs.level.Level.begin.Goals as goal

pub returns-then-is_key-clause-begins : goal.returns-then-is_key-clause-begins
returns-then-is_key-clause-begins g c = grind (arith, level_begun)

pub returns-then-is_key-clause-first : goal.returns-then-is_key-clause-first
returns-then-is_key-clause-first g c = grind (arith, level_begun)

pub returns-then-is_key-clause-second : goal.returns-then-is_key-clause-second
returns-then-is_key-clause-second g c = grind (arith, level_begun)

pub returns-in_err-cut-clause-kept : goal.returns-in_err-cut-clause-kept
returns-in_err-cut-clause-kept g c = grind (arith, level_begun)

pub returns-in_err-cut-clause-same : goal.returns-in_err-cut-clause-same
returns-in_err-cut-clause-same g c = grind (arith, level_begun)

pub returns-clause-begins : goal.returns-clause-begins
returns-clause-begins g c = grind (arith, level_begun)

pub returns-clause-kept : goal.returns-clause-kept
returns-clause-kept g c = grind (arith, level_begun)

pub returns-clause-same : goal.returns-clause-same
returns-clause-same g c = grind (arith, level_begun)

pub returns-clause-first : goal.returns-clause-first
returns-clause-first g c = grind (arith, level_begun)

pub returns-clause-second : goal.returns-clause-second
returns-clause-second g c = grind (arith, level_begun)
