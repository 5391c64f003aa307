use Rattle.std.proofs.Common.{refl, sym, ap, is_some}
use Rattle.pmf_shadow.proofs.FrontLemmas.{on_changed}
use Rattle.pmf_shadow.proofs.front.ByteMap.change_on.Goals as goal

pub returns-in-Some-clause-changes : goal.returns-in-Some-clause-changes
returns-in-Some-clause-changes g c = λ yes.
    let found = sym c.in-Some.ensures.value in
    on_changed c.args.self.now _ c.args.line c.args.from c.args.upto (g.C.Change.changed c.args.change.now) c.in-Some.found.now c.change.new.self found
    ((c.get_mut.follows.holds c.change.new.self).3 (ap is_some found)).0 refl c.requires.upto c.change.ensures
