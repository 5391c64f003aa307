use Rattle.std.proofs.Common.{refl}
use Rattle.pmf_shadow.proofs.FrontLemmas.{unchanged}
use Rattle.pmf_shadow.proofs.front.ByteMap.to_take.Goals as goal

pub returns-then-not-is_now-clause-same : goal.returns-then-not-is_now-clause-same
returns-then-not-is_now-clause-same c = unchanged c.args.self.now _ refl refl

pub returns-then-is_none-clause-same : goal.returns-then-is_none-clause-same
returns-then-is_none-clause-same c = unchanged c.args.self.now _ refl refl

pub returns-else-is_none-clause-same : goal.returns-else-is_none-clause-same
returns-else-is_none-clause-same c = unchanged c.args.self.now _ refl refl
