use Rattle.std.proofs.Common.{refl}
use Rattle.pmf_shadow.proofs.FrontLemmas.{unchanged}
use Rattle.pmf_shadow.proofs.front.ByteMap.is_to_walk.Goals as goal

pub returns : goal.returns
returns c = unchanged c.args.self.now _ refl refl
