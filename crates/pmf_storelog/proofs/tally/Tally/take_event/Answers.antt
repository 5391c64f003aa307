use Rattle.std.proofs.Common.{refl}
use Rattle.pmf_storelog.proofs.TallyLemmas.{happened_ok, happened_err}
use Rattle.pmf_storelog.proofs.tally.Tally.take_event.Goals as goal

pub returns-clause-ok : goal.returns-clause-ok
returns-clause-ok c = λ run records text taken says.
    happened_ok run records text c.args.self.now taken c.args.event _ c.count.new.self c.add-added.result c.count.result says refl refl
    (c.add-added.ensures.ok run _ _ _ taken.sections) (c.add-added.ensures.room run _ _ _ taken.sections) c.count.ensures.ok

pub returns-clause-err : goal.returns-clause-err
returns-clause-err c = λ run records text taken says.
    happened_err run records text c.args.self.now taken c.args.event _ c.add-added.result c.count.result says refl
    (c.add-added.ensures.err run _ _ _ taken.sections) c.count.ensures.err
