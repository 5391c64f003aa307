use Rattle.std.proofs.Common.{rules}
use Rattle.pmf_world.proofs.lemmas.FloorLemmas.{IsFloor-given}
use Rattle.pmf_world.proofs.floor.Floor.give.Goals as goal

pub invariant_of-self : goal.invariant_of-self
invariant_of-self c = IsFloor-given _ _ _ c.self.inside.workers.items _ c.args.worker c.args.section c.args.verdict (search rules) (search rules) c.self.invariant
