use Rattle.std.proofs.Common.{◌≡◌, ◌*◌, ◌^◌, map, take}
use Rattle.pmf_lint.specs.Summing.{IsWithin, sums_of}
use Rattle.pmf_lint.proofs.summing.look_through.Given as goal

abbrev pub invariant-loop-section : goal.invariant-loop-section
invariant-loop-section l = record {
  are : l.sums ≡ sums_of (map (λ s. s.value) (take l.section-index l.sections));
  small : IsWithin (l.section-index * 2 ^ 64) l.sums;
  looked : map (λ k. k.section.value) l.all.items ≡ map (λ s. s.value) (take l.section-index l.sections);
}
