use Rattle.std.proofs.Common.{map, take}
use Rattle.pmf_query.proofs.NumberFoundLemmas.{LacksNumber}
use Rattle.pmf_query.proofs.section.find_section.Given as goal

abbrev pub invariant-loop-section : goal.invariant-loop-section
invariant-loop-section l = LacksNumber (map (λ section. section.value) (take l.section-index l.sections)) l.number
