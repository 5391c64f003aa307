use Rattle.std.proofs.Common.{◌≡◌, ◌≤◌, take, count_by}
use Rattle.pmf_why.specs.Reasons.{passes}
use Rattle.pmf_why.proofs.plan.count_pass.Given as goal

abbrev pub invariant-loop-row : goal.invariant-loop-row
invariant-loop-row l = record { few : l.count ≤ l.row-index; counted : l.count ≡ count_by (λ row. passes row) (take l.row-index l.rows) }
