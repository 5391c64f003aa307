use Rattle.std.proofs.{Common.{[], refl}, lemmas.Grind.{merely}}
use Rattle.pmf_verdict.proofs.checking.Checker.new.Goals as goal

pub invariant_of-result : goal.invariant_of-result
invariant_of-result c = record { of_some = merely ([], (c.new.ensures.walks, refl)) }
