use Rattle.std.proofs.Common.{Some, None}
use Rattle.pmf_runs.proofs.{RunLemmas.{on-err}, FlagLemmas.{same-plain, changes-plain, joined-plain}}
use Rattle.pmf_runs.proofs.flagged.FlaggedPart.change.Goals as goal

pub returns-in_err-effect-clause-unchanged : goal.returns-in_err-effect-clause-unchanged
returns-in_err-effect-clause-unchanged g c = on-err c.from_residual.result (same-plain g.S.State.flagged g.P.Part.state c.args.self.now c.give.new.self _ c.give.ensures.same c.give.ensures.flag c.give.ensures.flag c.in_err-effect.ensures.unchanged)

pub returns-clause-ok : goal.returns-clause-ok
returns-clause-ok g c = (
  changes-plain g.S.State.flagged g.P.Part.state c.args.self.now c.give.new.self _ (Some c.args.first) (Some c.args.end) (g.C.Change.changed c.args.change.now) c.give.ensures.same c.give.ensures.flag c.give.ensures.flag c.in_ok-effect.ensures.ok.0,
  λ joined. joined-plain g.P.Part.joined _ None None c.give.ensures.flag (c.in_ok-effect.ensures.ok.1 (c.give.ensures.joined joined).but),
)
