use Rattle.std.proofs.Common.{refl}
use Rattle.pmf_shadow.proofs.FrontLemmas.{unchanged, keeps_both}
use Rattle.pmf_shadow.proofs.front.ByteMap.make_ready.Goals as goal

pub returns-then-not-is_to_walk : goal.returns-then-not-is_to_walk
returns-then-not-is_to_walk c = keeps_both c.args.self.now c.is_to_walk.new.self _ c.is_to_walk.ensures c.settle.ensures.same

pub returns : goal.returns
returns c = keeps_both c.args.self.now c.is_to_walk.new.self _ c.is_to_walk.ensures (unchanged c.is_to_walk.new.self _ refl refl)
