use Rattle.std.proofs.Common.{refl}
use Rattle.pmf_runs.proofs.FlagLemmas.{same-part}
use Rattle.pmf_runs.proofs.flagged.FlaggedPart.make_space.Goals as goal

pub returns-clause-same : goal.returns-clause-same
returns-clause-same g c = same-part g.S.State.flagged g.P.Part.state c.args.self.now _ refl c.make_space.ensures.same
