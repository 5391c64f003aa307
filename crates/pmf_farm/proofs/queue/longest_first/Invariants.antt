use Rattle.std.proofs.Common.{◌≡◌, map, take, vec_len}
use Rattle.pmf_farm.specs.Rolls.{with_places}
use Rattle.pmf_farm.proofs.queue.longest_first.Given as goal

abbrev pub invariant-loop-slot : goal.invariant-loop-slot
invariant-loop-slot l = record {
  len : vec_len l.placed ≡ l.slot-index;
  same : with_places (take l.slot-index l.roll) ≡ map (λ p. (p.section.value, p.place)) l.placed.items;
}
