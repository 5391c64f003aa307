use Rattle.std.proofs.Common.{refl}
use Rattle.pmf_runs.proofs.FlagLemmas.{same-given}
use Rattle.pmf_runs.proofs.flagged.Flagged.give.Goals as goal

pub returns-in-Some-clause-same : goal.returns-in-Some-clause-same
returns-in-Some-clause-same g c = same-given g.S.State.flagged g.P.Part.state c.args.self.now _ c.in-Some.flag c.in-Some.is refl c.rewrite.ensures.0
