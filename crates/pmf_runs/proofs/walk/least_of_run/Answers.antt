use Rattle.std.proofs.Common.{arith, None}
use Rattle.pmf_runs.proofs.AskingLemmas.{least-law, run-none, run-least}
use Rattle.pmf_runs.proofs.walk.least_of_run.Goals as goal

pub returns-then-end-first : goal.returns-then-end-first
returns-then-end-first c = run-none least-law None c.args.key c.args.first c.args.end (omega arith)

pub returns-else-end-first : goal.returns-else-end-first
returns-else-end-first c = run-least c.args.key c.args.first c.args.end (omega arith)
