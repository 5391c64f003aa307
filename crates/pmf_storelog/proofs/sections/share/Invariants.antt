use Rattle.std.proofs.Common.{◌≡◌, map, ◌++◌}
use Rattle.pmf_storelog.proofs.sections.share.Given as goal

abbrev pub invariant-loop-section : goal.invariant-loop-section
invariant-loop-section l = map (λ a. a.value) l.shared.items ++ l.section-iterator.rest.items ≡ l.initial.section-iterator.rest.items
