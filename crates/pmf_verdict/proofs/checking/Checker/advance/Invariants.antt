use Rattle.std.proofs.Common.{◌≡◌, ◌++◌, List}
use Rattle.pmf_event.specs.declared.event.Event.{Event}
use Rattle.pmf_verdict.specs.{Partly.{IsFrontOf}, Walks.{HasWalked, Walks}}
use Rattle.pmf_verdict.proofs.checking.Checker.advance.Given as goal

-- it has walked over some events, over the first ones of those that are given if it had before, and by its profile
abbrev pub invariant-loop-index : goal.invariant-loop-index
invariant-loop-index l = ∥ ((es : List Event) × HasWalked l.walk es l.index) ∥₁
    × ((es : List Event) → HasWalked l.fn.self.walk es l.fn.self.walked → IsFrontOf es l.events → (more : List Event) → Walks l.walk (l.events ++ more) l.index)
    × (l.walk.profile ≡ l.fn.self.walk.profile)
