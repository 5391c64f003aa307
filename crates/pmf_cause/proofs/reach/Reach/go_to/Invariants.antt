use Rattle.std.proofs.Common.{◌-◌}
use Rattle.pmf_cause.specs.Past.{IsPast}
use Rattle.pmf_cause.proofs.reach.Reach.go_to.Given as goal

abbrev pub invariant-loop-self : goal.invariant-loop-self
invariant-loop-self l = IsPast l.self.past l.events

abbrev pub decreases-loop-self : goal.decreases-loop-self
decreases-loop-self l = l.end - l.self.past.place
