use Rattle.std.proofs.Common.{refl}
use Rattle.pmf_storelog.proofs.AheadLemmas.{taken_plain}
use Rattle.pmf_storelog.proofs.tally.Tally.take_plain.Goals as goal

pub returns-clause-ok : goal.returns-clause-ok
returns-clause-ok c = λ run before records taken is.
    taken_plain run before records c.args.self.now _ c.args.plain taken is (c.has_room.ensures run _ _ _ taken.sections c.if-not-has_room.false)
    (c.in-Ok.ensures run _ _ _ taken.sections) refl refl
