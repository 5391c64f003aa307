use Rattle.std.proofs.Common.{refl}
use Rattle.pmf_runs.proofs.{RunLemmas.{on-err}, FlagLemmas.{same-part, splits-part}}
use Rattle.pmf_runs.proofs.flagged.FlaggedPart.split.Goals as goal

pub returns-in_err-part-clause-unchanged : goal.returns-in_err-part-clause-unchanged
returns-in_err-part-clause-unchanged g c = on-err c.from_residual.result (same-part g.S.State.flagged g.P.Part.state c.args.self.now _ refl c.in_err-part.ensures.unchanged)

pub returns-clause-ok : goal.returns-clause-ok
returns-clause-ok g c = (
  splits-part g.S.State.flagged g.P.Part.state c.args.self.now _ _ (g.P.Part.middle c.args.self.now.part c.args.place) refl refl c.in_ok-part.ensures.ok.0,
  λ joined. let both = c.in_ok-part.ensures.ok.1 joined.but in (record { but = both.0; none = λ is. (refl, refl) }, record { but = both.1; none = λ is. (refl, refl) }),
)
