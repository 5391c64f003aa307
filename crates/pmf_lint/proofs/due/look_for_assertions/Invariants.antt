use Rattle.std.proofs.Common.{◌≡◌, ◌==◌, not, map, take}
use Rattle.pmf_lint.specs.Due.{asserted_in, empty_in}
use Rattle.pmf_lint.proofs.due.look_for_assertions.Given as goal

abbrev pub invariant-loop-section : goal.invariant-loop-section
invariant-loop-section l = record {
  asserted : l.asserted ≡ not (asserted_in (map (λ s. s.value) (take l.section-index l.sections)) == 0);
  filled : l.filled ≡ not (empty_in (map (λ s. s.value) (take l.section-index l.sections)) == asserted_in (map (λ s. s.value) (take l.section-index l.sections)));
}
