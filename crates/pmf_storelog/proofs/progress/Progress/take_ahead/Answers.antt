use Rattle.std.proofs.{Common.{length, sym, subst, ◌∙◌}, lemmas.Result.{err_from_is_err_and}, lemmas.Iterator.Adapters.{YieldsList-from_vec}, lemmas.Iterator.Consumers.{YieldsList-turn}}
use Rattle.pmf_storelog.{specs.Ahead.{IsStretchOf}, proofs.AheadLemmas.{reached_both}}
use Rattle.pmf_storelog.proofs.progress.Progress.take_ahead.Goals as goal

pub returns-in_err-at-clause-err : goal.returns-in_err-at-clause-err
returns-in_err-at-clause-err c =
    let p = err_from_is_err_and c.from_residual.result c.from_residual.ensures.1 in
    rw (p.1, p.2) (λ run bytes parsed. c.in_err-at.ensures.err run bytes (c.loop-stretch.invariant.parsed run bytes parsed))

pub loop-stretch-preserved : goal.loop-stretch-preserved
loop-stretch-preserved c =
    let piece = c.args.piece.now in let gives = c.into_iter-stretch-iterator.ensures.into_iter_gives in
    let turn = YieldsList-turn (YieldsList-from_vec c.args.ahead.stretches.items gives.0 (gives.1 ∙ c.args.ahead.stretches.ok.0)) c.loop-stretch.yielded c.loop-stretch.stretch-iterator c.loop-stretch.yielded_by
    c.next.result c.next.new.self c.in-Some.stretch c.in-Some.is c.next.ensures.steps in
    let is : IsStretchOf piece c.in-Some.stretch = subst (IsStretchOf piece) (sym turn.1) (c.requires.ahead (length c.loop-stretch.yielded) c.in-Some.stretch turn.0) in
    let read = reached_both piece _ _ _ _ _ _ c.loop-stretch.invariant c.in_ok-at.ensures.ok in
    reached_both piece _ _ _ _ _ _ read (c.in_ok-at-2.ensures.ok piece is read.within)
