use Rattle.std.proofs.Common.{refl}
use Rattle.pmf_runs.specs.Runs as behind
use Rattle.pmf_shadow.proofs.FrontLemmas.{line_of_one}
use Rattle.pmf_shadow.proofs.line.Line.of_one.Goals as goal

pub returns : goal.returns
returns c = line_of_one (behind.state_at c.args.runs.now) c.args.number c.in_ok-state.state _ c.in_ok-state.ensures refl
