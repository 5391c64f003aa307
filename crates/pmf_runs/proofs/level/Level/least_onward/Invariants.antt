use Rattle.std.proofs.Common.{◌-◌, vec_len}
use Rattle.pmf_event.specs.Ranges.{least_from, lesser}
use Rattle.pmf_runs.{specs.Levels.{level_state}, proofs.AskingLemmas.{Asked}}
use Rattle.pmf_runs.proofs.level.Level.least_onward.Given as goal

abbrev pub invariant-loop-start : goal.invariant-loop-start
invariant-loop-start g l = Asked (λ d. least_from (λ b. g.K.Key.key l.key (level_state g.P.Part.state l.self d b))) lesser l.fn.least l.self.keys.items l.first l.end l.start l.index l.lowest

abbrev pub decreases-loop-start : goal.decreases-loop-start
decreases-loop-start g l = vec_len l.self.parts - l.index
