use Rattle.std.proofs.Common.{◌∙◌, sym, arith, Some, None}
use Rattle.pmf_txcheck.proofs.{TrackLemmas.{tracks-outside, tracks-added, add-outside, add-unscoped, add-found, in_scope-by, follows-from}, state.TxState.add.Goals.{in-None, in-Some+in-None-first_where, in-Some+in-Some-first_where}}
use Rattle.pmf_txcheck.proofs.state.TxState.add.Goals as goal

pub returns-then-self-eq0-clause-follows : goal.returns-then-self-eq0-clause-follows
returns-then-self-eq0-clause-follows c = λ place. follows-from place c.args.self.now _ _ (λ told es p here at_place tracks.
    tracks-outside c.args.self.now told es p tracks c.args.span c.if-self-eq0.true here)

pub returns-then-self-eq0-clause-finds : goal.returns-then-self-eq0-clause-finds
returns-then-self-eq0-clause-finds c = λ told es p tracks. add-outside c.args.self.now told es p tracks c.args.span c.if-self-eq0.true

pub returns-clause-follows : goal.returns-clause-follows
returns-clause-follows c = λ place. follows-from place c.args.self.now _ _ (λ told es p here at_place tracks.
    tracks-added c.args.self.now told es p tracks c.args.span c.change.new.self c.first-first.result c.end-end.result
    c.first-first.ensures.value c.end-end.ensures.value (omega arith) c.in_ok-change.ensures.ok here)

pub returns-clause-finds : goal.returns-clause-finds
returns-clause-finds c = λ told es p tracks.
    let state = c.args.self.now in
    let s = c.args.span in
    elim c.match-self.branch [
      | in-None w ↦ w.finding-is ∙ add-unscoped state told es p tracks s (omega arith) w.in-None.is
      | in-Some+in-None-first_where w ↦
          w.finding-is ∙ add-found state told es p tracks s c.first-first.result c.end-end.result None c.first-first.ensures.value c.end-end.ensures.value (omega arith) (in_scope-by state told es p tracks w.in-Some.field-0 w.in-Some.is)
          (sym w.in-None-first_where.is ∙ w.first_where.ensures)
      | in-Some+in-Some-first_where w ↦
          w.finding-is ∙ add-found state told es p tracks s c.first-first.result c.end-end.result (Some w.in-Some-first_where.byte) c.first-first.ensures.value c.end-end.ensures.value (omega arith) (in_scope-by state told es p tracks w.in-Some.field-0 w.in-Some.is)
          (sym w.in-Some-first_where.is ∙ w.first_where.ensures)
    ]
