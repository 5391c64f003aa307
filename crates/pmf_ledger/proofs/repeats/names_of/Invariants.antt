use Rattle.std.proofs.Common.{◌≡◌, map, take}
use Rattle.pmf_ledger.proofs.repeats.names_of.Given as goal

abbrev pub invariant-loop-section : goal.invariant-loop-section
invariant-loop-section l = l.names.items ≡ map (λ s. s.value.name) (take l.section-index l.sections)
