use Rattle.std.proofs.Common.{suc, ◌∙◌}
use Rattle.pmf_event.specs.FlushWarnings.{if_any}
use Rattle.pmf_txcheck.proofs.TrackLemmas.{one-list}
use Rattle.pmf_verdict.proofs.WalkLemmas.{walks-said, stands-next, tracks-next, found-store}
use Rattle.pmf_verdict.proofs.checking.Walk.store.Goals as goal

pub returns-clause-walks : goal.returns-clause-walks
returns-clause-walks c = λ es p walks here place.
    let old = c.args.self.now in
    let stands = stands-next c.args.place old.shadow c.store.new.self _ c.in_ok-store.ensures.follows es p here place walks.stands in
    walks-said old c.push_if_any.new.self es p _ here walks c.store.new.self c.store-2.new.self c.args.place (if_any c.in_ok-found.found)
    c.in_ok-push_if_any.ensures stands (tracks-next c.args.place old.transactions c.store-2.new.self _ (c.in_ok-found.ensures.follows c.args.place) es p here place walks.tracks) place
    (found-store old.profile es p c.args.span c.in_ok-found.found (c.in_ok-found.ensures.finds (λ k. k) (λ k. k) es es p (suc p) walks.tracks stands ∙ one-list.store es p c.args.span))
