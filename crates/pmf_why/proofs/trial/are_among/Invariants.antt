use Rattle.std.proofs.Common.{take, All, Contains}
use Rattle.pmf_why.proofs.trial.are_among.Given as goal

abbrev pub invariant-loop-edit : goal.invariant-loop-edit
invariant-loop-edit l = All (λ e. Contains l.all e) (take l.edit-index l.edits)
