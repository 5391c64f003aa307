use Rattle.std.proofs.Common.{sym, ◌∙◌, ap, arith, Some, None, not}
use Rattle.pmf_event.proofs.RangeLemmas.{none-from}
use Rattle.pmf_txcheck.proofs.{TrackLemmas.{inside-by, in_scope-by_some, tracks-stored, tracks-store_outside, tracks-store_unscoped, store-outside, store-unscoped, store-found, follows-from}, state.TxState.store.Goals.{then-self-eq0-via-then-self-eq0, then-self-eq0-via-else-self-eq0+then-is_none, in-None, in-Some}}
use Rattle.pmf_txcheck.proofs.state.TxState.store.Goals as goal

pub returns-then-self-eq0-clause-follows : goal.returns-then-self-eq0-clause-follows
returns-then-self-eq0-clause-follows c = λ place. follows-from place c.args.self.now _ _ (λ told es p here at_place tracks.
    let old = c.args.self.now in
    elim c.then-self-eq0.branch [
      | then-self-eq0-via-then-self-eq0 w ↦ tracks-store_outside old told es p tracks c.args.span w.if-self-eq0.true here
      | then-self-eq0-via-else-self-eq0+then-is_none w ↦ tracks-store_unscoped old told es p tracks c.args.span (none-from old.scope (w.is_none.ensures ∙ ap not w.if-is_none.true)) here
    ])

pub returns-then-self-eq0-clause-finds : goal.returns-then-self-eq0-clause-finds
returns-then-self-eq0-clause-finds c = λ told tells es fs p q tracks stands.
    let old = c.args.self.now in
    elim c.then-self-eq0.branch [
      | then-self-eq0-via-then-self-eq0 w ↦ store-outside old told es fs p q tracks c.args.span w.if-self-eq0.true
      | then-self-eq0-via-else-self-eq0+then-is_none w ↦ store-unscoped old told es fs p q tracks c.args.span (none-from old.scope (w.is_none.ensures ∙ ap not w.if-is_none.true))
    ]

pub returns-clause-follows : goal.returns-clause-follows
returns-clause-follows c = λ place. follows-from place c.args.self.now _ _ (λ told es p here at_place tracks.
    tracks-stored c.args.self.now told es p tracks c.args.span c.change.new.self c.first-first.result c.end-end.result
    c.first-first.ensures.value c.end-end.ensures.value (omega arith) c.in_ok-change.ensures.ok here)

pub returns-clause-finds : goal.returns-clause-finds
returns-clause-finds c = λ told tells es fs p q tracks stands.
    let state = c.args.self.now in
    let first = c.first-first in
    let end = c.end-end in
    let scoped = in_scope-by_some state told es p tracks (c.is_none.ensures ∙ ap not c.if-is_none.false) in
    let bare = c.least_bare.ensures told tells es fs p q tracks (inside-by state told es p tracks (omega arith)) stands in
    elim c.match-least_bare.branch [
      | in-None w ↦ w.finding-is ∙ store-found state told es fs p q tracks c.args.span first.result end.result None first.ensures.value end.ensures.value (omega arith) scoped (sym w.in-None.is ∙ bare)
      | in-Some w ↦ w.finding-is ∙ store-found state told es fs p q tracks c.args.span first.result end.result (Some w.in-Some.byte) first.ensures.value end.ensures.value (omega arith) scoped (sym w.in-Some.is ∙ bare)
    ]
