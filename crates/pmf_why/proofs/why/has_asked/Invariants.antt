use Rattle.std.{proofs.Common.{◌≡◌, take}, specs.List.{list_any}}
use Rattle.pmf_why.specs.Reasons.{is_asked}
use Rattle.pmf_why.proofs.why.has_asked.Given as goal

abbrev pub invariant-loop-section : goal.invariant-loop-section
invariant-loop-section l = l.has ≡ list_any (λ s. is_asked l.named s.value.name.number) (take l.section-index l.sections)
