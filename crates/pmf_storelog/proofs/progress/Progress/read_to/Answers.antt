use Rattle.std.proofs.{Common.{◌-◌, length, drop, arith, length-drop, length-take-le}, lemmas.Result.{err_from_is_err_and}}
use Rattle.pmf_storelog.proofs.{ProgressLemmas.{front_longer, next_part, shown_in_piece}}
use Rattle.pmf_storelog.proofs.progress.Progress.read_to.Goals as goal

pub returns-in_err-end_part-clause-err : goal.returns-in_err-end_part-clause-err
returns-in_err-end_part-clause-err c =
    let piece = c.args.piece.now in let end = c.loop-end.end in let len = c.in-Some.len in
    let p = err_from_is_err_and c.from_residual.result c.from_residual.ensures.1 in
    rw (p.1, p.2) (λ run bytes parsed.
    shown_in_piece run bytes piece end len _ (c.in_err-end_part.ensures.err run _ _ (c.loop-end.invariant.parsed run bytes parsed) (next_part piece end len c.in-Some.ensures.cases)))

pub loop-end-preserved : goal.loop-end-preserved
loop-end-preserved c =
    let piece = c.args.piece.now in let end = c.loop-end.end in let len = c.in-Some.len in let is = c.loop-end.invariant in
    let ends = next_part piece end len c.in-Some.ensures.cases in
    let inside = length-take-le (length piece - end) (drop end piece) in
    record {
      rises = omega (arith, is.rises);
      within = omega (arith, is.within, c.in-Some.ensures.within, inside, length-drop end piece);
      grows = omega (arith, is.grows, c.in_ok-end_part.ensures.grows);
      parsed = λ run bytes parsed. front_longer run bytes piece end len _ (c.in_ok-end_part.ensures.ok run _ _ (is.parsed run bytes parsed) ends);
    }
