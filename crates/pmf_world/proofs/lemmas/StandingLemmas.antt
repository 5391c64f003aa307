-- Each world stands for some state.
use Rattle.std.proofs.{Common.{arith}, lemmas.Grind.{common_steps}}
use Rattle.pmf_world.specs.Laws.{WorldsStandForSome}

pub worlds_stand : WorldsStandForSome
worlds_stand = grind (arith, common_steps)
