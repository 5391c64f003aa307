use Rattle.std.proofs.Common.{◌≡◌, drop}
use Rattle.pmf_cut.specs.Comparing.{agrees}
use Rattle.pmf_cut.proofs.comparing.all_agree.Given as goal

abbrev pub invariant-loop-pair : goal.invariant-loop-pair
invariant-loop-pair l = agrees l.seen l.x l.y ≡ agrees (drop l.pair-index l.seen) l.x l.y
