use Rattle.std.proofs.Common.{arith, None}
use Rattle.pmf_runs.proofs.AskingLemmas.{first-law, run-none, run-first, run-first_none}
use Rattle.pmf_runs.proofs.walk.first_of_run.Goals as goal

pub returns-then-end-first : goal.returns-then-end-first
returns-then-end-first c = run-none first-law None c.args.passes c.args.first c.args.end (omega arith)

pub returns-then-passes : goal.returns-then-passes
returns-then-passes c = run-first c.args.passes c.args.first c.args.end (omega arith) c.if-passes.true

pub returns-else-passes : goal.returns-else-passes
returns-else-passes c = run-first_none c.args.passes c.args.first c.args.end c.if-passes.false
