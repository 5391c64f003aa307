use Rattle.std.proofs.Common.{sym, ◌∙◌, ap, arith, Some, None, not}
use Rattle.pmf_event.proofs.RangeLemmas.{none-from}
use Rattle.pmf_txcheck.proofs.TrackLemmas.{in_scope-by_some, check-unopened, check-inside, check-found}
use Rattle.pmf_txcheck.proofs.state.TxState.found_at_end.Goals as goal

pub returns-then-is_none : goal.returns-then-is_none
returns-then-is_none c = λ told tells es fs p q tracks stands. check-unopened c.args.self.now told es fs p q tracks (none-from c.args.self.now.scope (c.is_none.ensures ∙ ap not c.if-is_none.true))

pub returns-then-self-gt0 : goal.returns-then-self-gt0
returns-then-self-gt0 c = λ told tells es fs p q tracks stands.
    let state = c.args.self.now in
    let scoped = in_scope-by_some state told es p tracks (c.is_none.ensures ∙ ap not c.if-is_none.false) in
    check-inside state told es fs p q tracks scoped (omega arith)

pub returns-in-None : goal.returns-in-None
returns-in-None c = λ told tells es fs p q tracks stands.
    let state = c.args.self.now in
    let scoped = in_scope-by_some state told es p tracks (c.is_none.ensures ∙ ap not c.if-is_none.false) in
    check-found state told es fs p q tracks None scoped (omega arith) (sym c.in-None.is ∙ c.least_left_open.ensures told tells es fs p q tracks scoped stands)

pub returns-in-Some : goal.returns-in-Some
returns-in-Some c = λ told tells es fs p q tracks stands.
    let state = c.args.self.now in
    let scoped = in_scope-by_some state told es p tracks (c.is_none.ensures ∙ ap not c.if-is_none.false) in
    check-found state told es fs p q tracks (Some c.in-Some.byte) scoped (omega arith) (sym c.in-Some.is ∙ c.least_left_open.ensures told tells es fs p q tracks scoped stands)
