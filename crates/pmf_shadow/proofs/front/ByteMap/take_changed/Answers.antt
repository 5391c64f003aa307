use Rattle.std.proofs.Common.{refl}
use Rattle.pmf_shadow.proofs.{FrontLemmas.{unchanged}, WalkLemmas.{taken_changed}}
use Rattle.pmf_shadow.proofs.front.ByteMap.take_changed.Goals as goal

pub returns-in-Ok-clause-ok : goal.returns-in-Ok-clause-ok
returns-in-Ok-clause-ok g c =
    taken_changed c.args.self.now _ c.args.line c.args.from c.args.upto (g.C.Change.changed c.args.change.now) c.args.found c.change.new.self c.requires.absent c.requires.even c.in-Ok.ensures.updates.0 refl c.requires.upto c.change.ensures

pub returns-in-Err-clause-unchanged : goal.returns-in-Err-clause-unchanged
returns-in-Err-clause-unchanged g c = unchanged c.args.self.now _ c.in-Err.ensures.err refl
