use Rattle.std.proofs.Common.{◌≤◌, length}
use Rattle.pmf_cause.specs.Later.{IsLater}
use Rattle.pmf_cause.proofs.later.Later.go_to.Given as goal

abbrev pub invariant-loop-self : goal.invariant-loop-self
invariant-loop-self l = record {
  later : IsLater l.watch l.self l.events;
  behind : l.place ≤ l.self.place;
  within : l.self.place ≤ length l.events;
}

abbrev pub decreases-loop-self : goal.decreases-loop-self
decreases-loop-self l = l.self.place
