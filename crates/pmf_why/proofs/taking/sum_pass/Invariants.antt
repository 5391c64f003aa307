use Rattle.std.proofs.Common.{◌≡◌, ◌≤◌, ◌*◌, ◌^◌, take, sum_by}
use Rattle.pmf_why.specs.declared.plan.Counts.{Counts}
use Rattle.pmf_why.proofs.taking.sum_pass.Given as goal

abbrev pub invariant-loop-one : goal.invariant-loop-one
invariant-loop-one l = record {
  small : l.sum ≤ l.one-index * 2 ^ 64;
  summed : l.sum ≡ sum_by (λ (c : Counts). c.pass) (take l.one-index l.counts);
}
