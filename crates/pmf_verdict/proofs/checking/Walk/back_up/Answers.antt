use Rattle.pmf_event.specs.FlushWarnings.{if_any}
use Rattle.pmf_shadow.specs.Laws.{is_unseen}
use Rattle.std.proofs.Common.{refl}
use Rattle.pmf_verdict.proofs.WalkLemmas.{walks-said, stands-still, tracks-next, found-add}
use Rattle.pmf_verdict.proofs.checking.Walk.back_up.Goals as goal

pub returns-clause-walks : goal.returns-clause-walks
unfolding is_unseen
returns-clause-walks c = λ es p walks here place.
    let old = c.args.self.now in
    walks-said old c.push_if_any.new.self es p _ here walks old.shadow c.add.new.self c.args.place (if_any c.in_ok-found.found)
    c.in_ok-push_if_any.ensures (stands-still old c.push_if_any.new.self es p _ here walks refl) (tracks-next c.args.place old.transactions c.add.new.self _ (c.in_ok-found.ensures.follows c.args.place) es p here place walks.tracks) place
    (found-add old.profile es p c.args.span c.in_ok-found.found (c.in_ok-found.ensures.finds (λ k. k) es p walks.tracks))
