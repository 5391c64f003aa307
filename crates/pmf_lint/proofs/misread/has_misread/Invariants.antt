use Rattle.std.{proofs.Common.{◌≡◌, false, take}, specs.List.{list_any}}
use Rattle.pmf_lint.proofs.MisreadLemmas.{is_of_misread}
use Rattle.pmf_lint.proofs.misread.has_misread.Given as goal

abbrev pub invariant-loop-section : goal.invariant-loop-section
invariant-loop-section l = list_any (is_of_misread (λ s. s.value) l.log) (take l.section-index l.sections) ≡ false
