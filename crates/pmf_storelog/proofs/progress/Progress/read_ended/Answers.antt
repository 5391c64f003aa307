use Rattle.std.proofs.{Common.{◌-◌, length, take, drop, arith, take-append-drop, length-drop, length-take-le}, lemmas.Result.{err_from_is_err_and}, lemmas.List.{take_rest}}
use Rattle.pmf_storelog.proofs.ProgressLemmas.{front_longer, next_part, shown_in_piece}
use Rattle.pmf_storelog.proofs.progress.Progress.read_ended.Goals as goal

pub returns-in_err-end_part-clause-err : goal.returns-in_err-end_part-clause-err
returns-in_err-end_part-clause-err c = λ run bytes parsed.
    let p = err_from_is_err_and c.from_residual.result c.from_residual.ensures.1 in let ends = next_part c.args.piece.now c.loop-len.start c.in-Some.len c.in-Some.ensures.cases in
    let shown = c.in_err-end_part.ensures.err run _ _ (c.loop-len.invariant.parsed run bytes parsed) ends in
    rw (p.1, p.2) (shown_in_piece run bytes c.args.piece.now c.loop-len.start c.in-Some.len _ shown)

pub loop-len-preserved : goal.loop-len-preserved
loop-len-preserved c = record {
  within = omega (arith, c.in-Some.ensures.within, length-take-le (length c.args.piece.now - c.loop-len.start) (drop c.loop-len.start c.args.piece.now), length-drop c.loop-len.start c.args.piece.now);
  grows = omega (arith, c.in_ok-end_part.ensures.grows);
  parsed = λ run bytes parsed.
      let ends = next_part c.args.piece.now c.loop-len.start c.in-Some.len c.in-Some.ensures.cases in
      let taken = c.in_ok-end_part.ensures.ok run _ _ (c.loop-len.invariant.parsed run bytes parsed) ends in front_longer run bytes c.args.piece.now c.loop-len.start c.in-Some.len _ taken;
}

pub returns-clause-ok : goal.returns-clause-ok
returns-clause-ok c = λ run bytes parsed. record {
  front = take c.loop-len.start c.args.piece.now;
  whole = rw (take_rest c.args.piece.now c.loop-len.start) (take-append-drop c.loop-len.start c.args.piece.now);
  open_end = c.in_default.ensures.cases;
  parsed = c.loop-len.invariant.parsed run bytes parsed;
}
