use Rattle.std.proofs.Common.{refl}
use Rattle.pmf_lint.proofs.UpkeepLemmas.{walked_none}
use Rattle.pmf_lint.proofs.upkeep.Walk.new.Goals as goal

pub returns : goal.returns
returns c = walked_none _ c.for_walk.ensures refl refl refl refl refl
