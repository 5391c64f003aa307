use Rattle.pmf_runs.proofs.FlagLemmas.{same-plain}
use Rattle.pmf_runs.proofs.flagged.FlaggedPart.cut.Goals as goal

pub returns-in_err-cut-clause-same : goal.returns-in_err-cut-clause-same
returns-in_err-cut-clause-same g c = same-plain g.S.State.flagged g.P.Part.state c.args.self.now c.give.new.self _ c.give.ensures.same c.give.ensures.flag c.give.ensures.flag c.cut.ensures.same

pub returns-clause-same : goal.returns-clause-same
returns-clause-same g c = same-plain g.S.State.flagged g.P.Part.state c.args.self.now c.give.new.self _ c.give.ensures.same c.give.ensures.flag c.give.ensures.flag c.cut.ensures.same
