use Rattle.std.{proofs.Common.{◌≡◌, map, vec_len}, specs.List.{range_with_len}}
use Rattle.pmf_farm.specs.Rolls.{slot_at}
use Rattle.pmf_farm.proofs.roll.slots_of.Given as goal

abbrev pub invariant-loop-place : goal.invariant-loop-place
invariant-loop-place l = (l.roll.items ≡ map (slot_at l.profile (map (λ s. s.value) l.sections)) (range_with_len 0 l.place)) × (vec_len l.roll ≡ l.place)
