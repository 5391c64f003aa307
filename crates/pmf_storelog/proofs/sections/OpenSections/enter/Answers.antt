use Rattle.std.proofs.{Common.{refl, sym, arith}, lemmas.Grind.{common_steps}}
use Rattle.pmf_storelog.proofs.SectionLemmas.{again, same_numbers, begun_ok, begun_room, begun_err}
use Rattle.pmf_storelog.proofs.sections.OpenSections.enter.Goals as goal

pub returns-in-Some-clause-ok : goal.returns-in-Some-clause-ok
returns-in-Some-clause-ok c = λ run numbers events current has.
    again run numbers events current c.args.self.now has c.args.number c.in-Some.place.now _ (sym c.in-Some.ensures.value) refl refl refl refl

pub returns-in-Some-clause-room : goal.returns-in-Some-clause-room
returns-in-Some-clause-room c = λ run numbers events current has.
    rw (same_numbers run numbers events current c.args.self.now has c.args.number c.in-Some.place.now (sym c.in-Some.ensures.value))
    (omega (arith, has.count, c.args.self.now.few))

pub returns-in-None-clause-ok : goal.returns-in-None-clause-ok
returns-in-None-clause-ok c = grind (arith, common_steps, begun_ok)

pub returns-in-None-clause-room : goal.returns-in-None-clause-room
returns-in-None-clause-room c = λ run numbers events current has.
    begun_room run numbers events current c.args.self.now has c.args.number c.open.new.self c.open.result (sym c.in-None.ensures.value) c.open.ensures.ok

pub returns-in-None-clause-err : goal.returns-in-None-clause-err
returns-in-None-clause-err c = λ run numbers events current has.
    begun_err run numbers events current c.args.self.now has c.args.number c.open.result (sym c.in-None.ensures.value) c.open.ensures.err
