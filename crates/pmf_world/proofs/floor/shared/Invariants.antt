use Rattle.std.proofs.Common.{◌≡◌, map, take}
use Rattle.pmf_world.proofs.floor.shared.Given as goal

abbrev pub invariant-loop-section : goal.invariant-loop-section
invariant-loop-section l = map (λ s. s.value) l.copy.items ≡ map (λ s. s.value) (take l.section-index l.sections)
