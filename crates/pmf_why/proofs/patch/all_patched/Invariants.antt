use Rattle.std.{proofs.Common.{map, take}, specs.List.{AllZip}}
use Rattle.pmf_why.specs.{declared.patch.Patched.{Patched}, Patching.{IsPatched}}
use Rattle.pmf_why.proofs.patch.all_patched.Given as goal

abbrev pub invariant-loop-section : goal.invariant-loop-section
invariant-loop-section l = AllZip (λ t (one : Patched). IsPatched l.fn.asked t one.section.value) (map (λ s. s.value) (take l.section-index l.sections)) l.cures.items
