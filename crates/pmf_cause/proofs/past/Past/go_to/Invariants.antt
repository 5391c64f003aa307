use Rattle.std.proofs.Common.{◌≡◌, ◌-◌, ◌≤◌}
use Rattle.pmf_cause.specs.Past.{IsPast}
use Rattle.pmf_cause.proofs.past.Past.go_to.Given as goal

abbrev pub invariant-loop-self : goal.invariant-loop-self
invariant-loop-self l = record {
  past : IsPast l.self l.events;
  watch : l.self.watch ≡ l.fn.self.watch;
  before : l.self.place ≤ l.place;
}

abbrev pub decreases-loop-self : goal.decreases-loop-self
decreases-loop-self l = l.place - l.self.place
