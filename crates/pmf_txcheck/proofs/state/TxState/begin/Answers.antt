use Rattle.std.proofs.Common.{sym, subst, arith}
use Rattle.pmf_txcheck.proofs.{TrackLemmas.{Begun, begun-outermost, begun-nested, tracks-begun, follows-from}, state.TxState.begin.Goals.{then-self-eq0+in-None-1, then-self-eq0+in-Some-1, else-self-eq0}}
use Rattle.pmf_txcheck.proofs.state.TxState.begin.Goals as goal

pub returns : goal.returns
returns c = λ place. follows-from place c.args.self.now _ _ (λ told es p here at_place tracks.
    let old = c.args.self.now in
    let begun : Begun c.if-self-eq0.self told es p = elim c.if-self-eq0.branch [
      | then-self-eq0+in-None-1 w ↦ subst (λ mid. Begun mid told es p) (sym w.self-is) (begun-outermost old told es p here tracks w.new.result w.new.ensures.states w.if-self-eq0.true)
      | then-self-eq0+in-Some-1 w ↦ subst (λ mid. Begun mid told es p) (sym w.self-is) (begun-outermost old told es p here tracks w.new.result w.new.ensures.states w.if-self-eq0.true)
      | else-self-eq0 w ↦ subst (λ mid. Begun mid told es p) (sym w.self-is) (begun-nested old told es p here tracks (let some = w.if-self-eq0.false in omega arith))
    ] in
    tracks-begun c.if-self-eq0.self told es p here begun)
