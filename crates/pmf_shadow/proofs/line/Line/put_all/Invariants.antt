use Rattle.std.proofs.Common.{◌≡◌, ℕ, ◌/◌, Some, None, nat_eq, All}
use Rattle.std.specs.{HashMap.{get}, Map.{lookup}}
use Rattle.pmf_runs.specs.Runs as behind
use Rattle.pmf_shadow.specs.{Bytes.{IsLineOf}, declared.line.Line.{Line}}
use Rattle.pmf_shadow.proofs.line.Line.put_all.Given as goal

abbrev pub invariant-loop-number : goal.invariant-loop-number
invariant-loop-number l = record {
  left : All (λ e. get nat_eq l.lines e.0 ≡ Some e.1) l.number-iterator;
  put : (q : ℕ) (line : Line) → get nat_eq l.lines q ≡ Some line → lookup (nat_eq q) l.number-iterator ≡ None → IsLineOf (behind.state_at l.runs) q line;
  others : (b : ℕ) → get nat_eq l.lines (b / 64) ≡ None → behind.state_at l.runs b ≡ behind.state_at l.initial.runs b;
}
