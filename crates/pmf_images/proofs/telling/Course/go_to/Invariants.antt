use Rattle.std.proofs.Common.{◌-◌, ◌≤◌, ℕ}
use Rattle.pmf_images.proofs.telling.Course.go_to.Given as goal

abbrev pub invariant-loop-self : goal.invariant-loop-self
invariant-loop-self g l = record {
  sound : g.W.Walk.IsSound l.self.walk;
  knows : (byte : ℕ) → g.W.Walk.Knows l.initial.self.walk byte → g.W.Walk.Knows l.self.walk byte;
  keeps : g.W.Walk.Keeps l.self.walk l.events l.self.place;
  before : l.self.place ≤ l.place;
}

abbrev pub decreases-loop-self : goal.decreases-loop-self
decreases-loop-self g l = l.place - l.self.place
