use Rattle.std.proofs.Common.{◌≡◌, ◌-◌, ◌<◌, ◌≤◌, ℕ, List, true}
use Rattle.pmf_event.specs.{declared.event.Event.{Event}, Store.{last_store}}
use Rattle.pmf_runs.specs.Runs.{state_at}
use Rattle.pmf_cut.specs.Parts.{Stands}
use Rattle.pmf_cut.proofs.lost.Past.put.Given as goal

abbrev pub invariant-loop-start : goal.invariant-loop-start
invariant-loop-start l =
    (l.first ≤ 9223372036854775808)
    × ((b : ℕ) → state_at l.initial.self.bytes b ≡ true → state_at l.self.bytes b ≡ true)
    × ((fs : List Event) (m : ℕ) → Stands l.part fs m → (b : ℕ) → b < l.first → 0 < last_store fs m b → state_at l.self.bytes b ≡ true)
    × (l.self.last ≡ l.initial.self.last)

abbrev pub decreases-loop-start : goal.decreases-loop-start
decreases-loop-start l = 9223372036854775808 - l.first
