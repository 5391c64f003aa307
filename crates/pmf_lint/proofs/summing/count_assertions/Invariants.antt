use Rattle.std.proofs.Common.{◌≡◌, ◌≤◌, take, count_by}
use Rattle.pmf_lint.specs.Summing.{asserts}
use Rattle.pmf_lint.proofs.summing.count_assertions.Given as goal

abbrev pub invariant-loop-index : goal.invariant-loop-index
invariant-loop-index l = record { few : l.count ≤ l.index; counted : l.count ≡ count_by (λ x. asserts x) (take l.index l.events) }
