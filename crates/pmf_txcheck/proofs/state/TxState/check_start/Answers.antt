use Rattle.std.proofs.Common.{sym, ◌∙◌}
use Rattle.pmf_event.proofs.RangeLemmas.{none-from}
use Rattle.pmf_txcheck.proofs.TrackLemmas.{in_scope-by_some, tracks-nested, tracks-opened, start-nested, start-nothing, follows-from}
use Rattle.pmf_txcheck.proofs.state.TxState.check_start.Goals as goal

pub returns-then-is_some-clause-follows : goal.returns-then-is_some-clause-follows
returns-then-is_some-clause-follows c = follows-from c.args.place c.args.self.now _ _ (λ told es p here at_place tracks.
    let old = c.args.self.now in
    tracks-nested old told es p tracks (in_scope-by_some old told es p tracks (sym c.is_some.ensures ∙ c.if-is_some.true)) here)

pub returns-then-is_some-clause-finds : goal.returns-then-is_some-clause-finds
returns-then-is_some-clause-finds c = λ told es p tracks.
    let old = c.args.self.now in
    start-nested old told es p tracks (in_scope-by_some old told es p tracks (sym c.is_some.ensures ∙ c.if-is_some.true))

pub returns-clause-follows : goal.returns-clause-follows
returns-clause-follows c = follows-from c.args.place c.args.self.now _ _ (λ told es p here at_place tracks.
    tracks-opened c.args.self.now told es p tracks c.new.result c.args.place c.new.ensures.states (none-from _ (sym c.is_some.ensures ∙ c.if-is_some.false)) here at_place)

pub returns-clause-finds : goal.returns-clause-finds
returns-clause-finds c = λ told es p tracks. start-nothing c.args.self.now told es p tracks (none-from _ (sym c.is_some.ensures ∙ c.if-is_some.false))
