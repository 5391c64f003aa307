use Rattle.std.proofs.Common.{◌≡◌, ℕ, Some, None, nat_eq}
use Rattle.std.specs.{HashMap.{get}, Map.{lookup}}
use Rattle.pmf_runs.specs.Ranks.{HasKey}
use Rattle.pmf_shadow.specs.declared.line.Line.{Line}
use Rattle.pmf_shadow.proofs.order.numbers_of.Given as goal

abbrev pub invariant-loop-number : goal.invariant-loop-number
invariant-loop-number l = record {
  listed : (q : ℕ) (line : Line) → get nat_eq l.lines q ≡ Some line → lookup (nat_eq q) l.number-iterator ≡ None → HasKey l.numbers.items q;
}
