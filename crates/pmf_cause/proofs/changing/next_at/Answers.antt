use Rattle.std.proofs.Common.{suc}
use Rattle.pmf_cause.proofs.ChangedLemmas.{rises_none}
use Rattle.pmf_cause.proofs.changing.next_at.Goals as goal

pub returns : goal.returns
returns c = rises_none c.args.edits.now c.args.place (suc c.args.place) c.in_default.ensures.cases
