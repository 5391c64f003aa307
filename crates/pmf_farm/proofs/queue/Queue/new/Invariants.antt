use Rattle.std.proofs.Common.{◌≡◌, length, map, vec_len}
use Rattle.pmf_farm.proofs.queue.Queue.new.Given as goal

abbrev pub invariant-loop-section : goal.invariant-loop-section
invariant-loop-section l = record {
  len : vec_len l.sections ≡ length l.yielded;
  sections : map (λ s. s.value) l.sections.items ≡ map (λ p. p.section.value) l.yielded;
  places : l.places.items ≡ map (λ p. p.place) l.yielded;
}
