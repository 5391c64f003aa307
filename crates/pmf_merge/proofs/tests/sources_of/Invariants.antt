use Rattle.std.proofs.Common.{◌≡◌, All}
use Rattle.pmf_merge.proofs.tests.sources_of.Given as goal

abbrev pub invariant-loop-index : goal.invariant-loop-index
invariant-loop-index l = All (λ s. s.failures ≡ 0) l.sources.items
