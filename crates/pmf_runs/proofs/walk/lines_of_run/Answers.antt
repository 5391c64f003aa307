use Rattle.std.proofs.Common.{◌-◌, ◌/◌, refl, arith}
use Rattle.pmf_runs.proofs.{AskingLemmas.{lines-law, run-none}, LineCountLemmas.{run-fails, run-old, run-new}}
use Rattle.pmf_runs.proofs.walk.lines_of_run.Goals as goal

pub returns-then-end-first-clause-is : goal.returns-then-end-first-clause-is
returns-then-end-first-clause-is c = grind (arith, run-none, lines-law)

pub returns-then-not-passes-clause-is : goal.returns-then-not-passes-clause-is
returns-then-not-passes-clause-is c = run-fails c.args.passes c.args.first c.args.end c.args.so_far c.if-not-passes.true

pub returns-then-last-so_far-clause-is : goal.returns-then-last-so_far-clause-is
returns-then-last-so_far-clause-is c = run-old c.args.passes c.args.first c.args.end c.args.so_far (omega arith)

pub returns-clause-is : goal.returns-clause-is
returns-clause-is c = run-new c.args.passes c.args.first c.args.end c.max-line.result ((c.args.end - 1) / 64) c.args.so_far c.if-not-passes.false (omega arith) c.max-line.ensures refl (omega arith)
