use Rattle.std.proofs.Common.{add-one, refl}
use Rattle.pmf_cause.proofs.PastLemmas.{next}
use Rattle.pmf_cause.proofs.past.Past.follow.Goals as goal

pub returns-clause-past : goal.returns-clause-past
returns-clause-past c = λ es here past.
    let old = c.args.self.now in
    let at_place = add-one old.place in
    next old _ es c.args.event.now here past refl at_place (c.in_ok-store.ensures es old.place here at_place past.stored) (c.after-self.ensures es old.place here at_place past.marks)
    c.in_ok-write_back_watched.ensures c.in_ok-back_up_watched.ensures
