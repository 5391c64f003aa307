use Rattle.std.proofs.Common.{◌≤◌, ◌-◌, ℕ, List}
use Rattle.pmf_event.specs.declared.event.Event.{Event}
use Rattle.pmf_shadow.specs.Shadow.{StandsFor}
use Rattle.pmf_cut.specs.Comparing.{Compared}
use Rattle.pmf_cut.proofs.comparing.are_alike.Given as goal

abbrev pub invariant-loop-at : goal.invariant-loop-at
invariant-loop-at l =
    (l.at ≤ 9223372036854775808)
    × ((fs : List Event) (m : ℕ) (gs : List Event) (q : ℕ) → StandsFor l.one (λ k. k) fs m → StandsFor l.other (λ k. k) gs q → Compared fs m gs q l.seen.items l.at)

abbrev pub decreases-loop-at : goal.decreases-loop-at
decreases-loop-at l = 9223372036854775808 - l.at
