use Rattle.std.proofs.lemmas.Result.{err_from_is_err_and}
use Rattle.pmf_storelog.proofs.AheadLemmas.{at_start, reached_both, parsed_behind, shown_behind}
use Rattle.pmf_storelog.proofs.progress.Progress.read_with.Goals as goal

pub returns-in_err-start-clause-err : goal.returns-in_err-start-clause-err
returns-in_err-start-clause-err c = λ run bytes parsed.
    let p = err_from_is_err_and c.from_residual.result c.from_residual.ensures.1 in
    rw (p.1, p.2) (c.in_err-start.ensures.err run bytes (c.loop-part.invariant.parsed run bytes (at_start run bytes c.args.piece.now c.args.self.now parsed)))

pub loop-part-preserved : goal.loop-part-preserved
loop-part-preserved c = reached_both c.args.piece.now _ _ _ _ _ _ c.loop-part.invariant c.in_ok-start.ensures.ok

pub returns-in_err-rest-clause-err : goal.returns-in_err-rest-clause-err
returns-in_err-rest-clause-err c = λ run bytes parsed.
    let p = err_from_is_err_and c.from_residual-in_err-rest.result c.from_residual-in_err-rest.ensures.1 in
    let met = c.loop-part.invariant.parsed run bytes (at_start run bytes c.args.piece.now c.args.self.now parsed) in
    rw (p.1, p.2) (shown_behind run bytes c.args.piece.now c.loop-part.start _ (c.in_err-rest.ensures.err run _ met))

pub returns-clause-ok : goal.returns-clause-ok
returns-clause-ok c = λ run bytes parsed.
    let met = c.loop-part.invariant.parsed run bytes (at_start run bytes c.args.piece.now c.args.self.now parsed) in
    parsed_behind run bytes c.args.piece.now c.loop-part.start _ _ (c.in_ok-rest.ensures.ok run _ met)
