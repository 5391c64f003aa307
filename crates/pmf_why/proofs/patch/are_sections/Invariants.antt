use Rattle.std.proofs.Common.{◌≡◌, map, take}
use Rattle.pmf_why.specs.declared.patch.Patched.{Patched}
use Rattle.pmf_why.proofs.patch.are_sections.Given as goal

abbrev pub invariant-loop-index : goal.invariant-loop-index
invariant-loop-index l = map (λ (one : Patched). one.section.value) (take l.index l.cures) ≡ map (λ s. s.value) (take l.index l.again)
