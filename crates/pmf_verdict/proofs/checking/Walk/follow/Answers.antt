use Rattle.std.proofs.lemmas.{Bool.{cases_lt}, Grind.{not_there}}
use Rattle.pmf_event.specs.declared.section.TheConstants.{EVENT_LIMIT}
use Rattle.pmf_txcheck.specs.Tracking.{depth_of}
use Rattle.std.proofs.Common.{suc, ⊎_elim, [], ◌∷◌, refl, sym, ◌∙◌, ap, arith, Some}
use Rattle.pmf_event.{specs.declared.event.Event.TheVariants.{Fence, TxBegin, TxEnd, CheckStart, CheckEnd}, specs.FlushWarnings.{if_any}, proofs.TransactionLemmas.{depth-bound}}
use Rattle.pmf_shadow.{specs.Laws.{is_unseen}, proofs.StandsLemmas.{stands-fences}}
use Rattle.pmf_txcheck.{specs.Laws.{is_untracked}, proofs.TrackLemmas.{one-list}}
use Rattle.pmf_verdict.{specs.Rows.{findings_of}, proofs.WalkLemmas.{walks-said, walks-silent, stands-next, stands-still, as_told-same, tracks-still, tracks-next, found-end, found-start, found-check}}
use Rattle.pmf_verdict.proofs.checking.Walk.follow.Goals as goal

pub fence-requires : goal.fence-requires
fence-requires c = ⊎_elim (λ few. few)
    (λ many. absurd (not_there c.requires (λ (es, p, walks, below). let few = stands-fences c.args.self.now.shadow (λ k. k) es p walks.stands in omega (arith, few, below, many))))
    (cases_lt c.args.self.now.shadow.fences EVENT_LIMIT)

pub begin-requires : goal.begin-requires
begin-requires c = ⊎_elim (λ few. few)
    (λ many. absurd (not_there c.requires (λ (es, p, walks, below). let depth = walks.tracks.depth in let bound = depth-bound es p in omega (arith, depth, bound, below, many))))
    (cases_lt (depth_of c.args.self.now.transactions) 4294967295)

pub returns-in-Fence-clause-walks : goal.returns-in-Fence-clause-walks
unfolding findings_of is_untracked
returns-in-Fence-clause-walks c = λ es p walks here place.
    let own = here ∙ ap (λ e. Some e) c.in-Fence.is in
    let old = c.args.self.now in
    walks-silent old _ es p _ own walks c.fence.new.self old.transactions refl (stands-next (suc p) old.shadow c.fence.new.self Fence (c.fence.ensures (suc p)) es p own refl walks.stands)
    (tracks-still old old es p _ own walks refl) refl

pub returns-in_ok-push-in-Persist-clause-walks : goal.returns-in_ok-push-in-Persist-clause-walks
unfolding findings_of is_unseen is_untracked
returns-in_ok-push-in-Persist-clause-walks c = λ es p walks here place.
    let own = here ∙ ap (λ e. Some e) c.in-Persist.is in
    let old = c.args.self.now in
    let stands = stands-still old old es p _ own walks refl in
    walks-said old c.push.new.self es p _ own walks old.shadow old.transactions c.args.place (c.check_persist-finding.result ∷ [])
    c.in_ok-push-in-Persist.ensures stands (tracks-still old old es p _ own walks refl) place
    (ap (λ f. f ∷ []) (sym (c.check_persist-finding.ensures (λ k. k) es (suc p) stands)))

pub returns-in_ok-push-in-Ordered-clause-walks : goal.returns-in_ok-push-in-Ordered-clause-walks
unfolding findings_of is_unseen is_untracked
returns-in_ok-push-in-Ordered-clause-walks c = λ es p walks here place.
    let own = here ∙ ap (λ e. Some e) c.in-Ordered.is in
    let old = c.args.self.now in
    let stands = stands-still old old es p _ own walks refl in
    walks-said old c.push-in-Ordered.new.self es p _ own walks old.shadow old.transactions c.args.place (c.check_ordered-finding.result ∷ [])
    c.in_ok-push-in-Ordered.ensures stands (tracks-still old old es p _ own walks refl) place
    (ap (λ f. f ∷ []) (sym (c.check_ordered-finding.ensures (λ k. k) es (suc p) stands (λ i j s t below within first second. below) ∙ as_told-same _)))

pub returns-in_ok-exclude-in-Exclude-clause-walks : goal.returns-in_ok-exclude-in-Exclude-clause-walks
unfolding findings_of is_untracked
returns-in_ok-exclude-in-Exclude-clause-walks c = λ es p walks here place.
    let own = here ∙ ap (λ e. Some e) c.in-Exclude.is in
    let old = c.args.self.now in
    walks-silent old _ es p _ own walks c.exclude.new.self old.transactions refl (stands-next (suc p) old.shadow c.exclude.new.self _ (c.in_ok-exclude-in-Exclude.ensures.follows (suc p)) es p own refl walks.stands)
    (tracks-still old old es p _ own walks refl) refl

pub returns-in_ok-include-in-Include-clause-walks : goal.returns-in_ok-include-in-Include-clause-walks
unfolding findings_of is_untracked
returns-in_ok-include-in-Include-clause-walks c = λ es p walks here place.
    let own = here ∙ ap (λ e. Some e) c.in-Include.is in
    let old = c.args.self.now in
    walks-silent old _ es p _ own walks c.include.new.self old.transactions refl (stands-next (suc p) old.shadow c.include.new.self _ (c.in_ok-include-in-Include.ensures.follows (suc p)) es p own refl walks.stands)
    (tracks-still old old es p _ own walks refl) refl

pub returns-in-TxBegin-clause-walks : goal.returns-in-TxBegin-clause-walks
unfolding findings_of is_unseen
returns-in-TxBegin-clause-walks c = λ es p walks here place.
    let own = here ∙ ap (λ e. Some e) c.in-TxBegin.is in
    let old = c.args.self.now in
    walks-silent old _ es p _ own walks old.shadow c.begin.new.self refl (stands-still old old es p _ own walks refl)
    (tracks-next (suc p) old.transactions c.begin.new.self TxBegin (c.begin.ensures (suc p)) es p own refl walks.tracks) refl

pub returns-in_ok-push_if_any-in-TxEnd-clause-walks : goal.returns-in_ok-push_if_any-in-TxEnd-clause-walks
unfolding is_unseen
returns-in_ok-push_if_any-in-TxEnd-clause-walks c = λ es p walks here place.
    let own = here ∙ ap (λ e. Some e) c.in-TxEnd.is in
    let old = c.args.self.now in
    walks-said old c.push_if_any.new.self es p _ own walks old.shadow c.end-found.new.self c.args.place (if_any c.end-found.result)
    c.in_ok-push_if_any-in-TxEnd.ensures (stands-still old old es p _ own walks refl) (tracks-next (suc p) old.transactions c.end-found.new.self TxEnd (c.end-found.ensures.follows (suc p)) es p own refl walks.tracks) place
    (found-end old.profile es p c.end-found.result (c.end-found.ensures.finds (λ k. k) es p walks.tracks))

pub returns-in_ok-push_if_any-in-CheckStart-clause-walks : goal.returns-in_ok-push_if_any-in-CheckStart-clause-walks
unfolding is_unseen
returns-in_ok-push_if_any-in-CheckStart-clause-walks c = λ es p walks here place.
    let own = here ∙ ap (λ e. Some e) c.in-CheckStart.is in
    let old = c.args.self.now in
    walks-said old c.push_if_any-in-CheckStart.new.self es p _ own walks old.shadow c.check_start-found.new.self c.args.place (if_any c.check_start-found.result)
    c.in_ok-push_if_any-in-CheckStart.ensures (stands-still old old es p _ own walks refl) (tracks-next c.args.place old.transactions c.check_start-found.new.self CheckStart c.check_start-found.ensures.follows es p own place walks.tracks) place
    (found-start old.profile es p c.check_start-found.result (c.check_start-found.ensures.finds (λ k. k) es p walks.tracks))

pub returns-in_ok-push-in-CheckEnd-clause-walks : goal.returns-in_ok-push-in-CheckEnd-clause-walks
unfolding is_unseen
returns-in_ok-push-in-CheckEnd-clause-walks c = λ es p walks here place.
    let own = here ∙ ap (λ e. Some e) c.in-CheckEnd.is in
    let old = c.args.self.now in
    let stands = stands-still old old es p _ own walks refl in
    walks-said old c.push-in-CheckEnd.new.self es p _ own walks old.shadow c.check_end-finding.new.self c.args.place (c.check_end-finding.result ∷ [])
    c.in_ok-push-in-CheckEnd.ensures stands (tracks-next (suc p) old.transactions c.check_end-finding.new.self CheckEnd (c.check_end-finding.ensures.follows (suc p)) es p own refl walks.tracks) place
    (found-check old.profile es p c.check_end-finding.result (c.check_end-finding.ensures.finds (λ k. k) (λ k. k) es es p (suc p) walks.tracks stands ∙ one-list.check es p))
