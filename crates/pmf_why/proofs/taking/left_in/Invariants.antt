use Rattle.std.proofs.Common.{◌≡◌, ◌-◌, length, take, sum_by}
use Rattle.pmf_why.specs.{declared.taking.Told.{Told}, Ending.{like_in}}
use Rattle.pmf_why.proofs.taking.left_in.Given as goal

abbrev pub invariant-loop-one : goal.invariant-loop-one
invariant-loop-one l = l.left ≡ length l.kinds - sum_by (λ (t : Told). like_in l.all l.kinds t) (take l.one-index l.told)
