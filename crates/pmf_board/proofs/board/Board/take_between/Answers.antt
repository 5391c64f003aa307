use Rattle.std.proofs.Common.{rules, ◌≡◌, ◌<◌, ◌≤◌, false, is_some, sym, subst, arith}
use Rattle.pmf_board.proofs.lemmas.CallLemmas.{Stays-both, Takes-after, closed-later, closed-more, IfSome-then, IfNone-of}
use Rattle.pmf_board.proofs.board.Board.take_between.Goals as goal

pub returns-then-is_some-clause-some : goal.returns-then-is_some-clause-some
returns-then-is_some-clause-some c = IfSome-then c.take_at-taken.result
    (λ t takes.
    let from : c.args.first ≤ t.section = subst (λ n. c.args.first ≤ n) (sym takes.0) c.loop-section.invariant.from in
    let below : t.section < c.args.end = subst (λ n. n < c.args.end) (sym takes.0) (search rules) in (
      Takes-after _ _ _ _ _ c.loop-section.invariant.stays takes.1,
      from,
      below,
      (λ s up less. closed-later _ _ _ s takes.1.never_falls (c.loop-section.invariant.closed s up (subst (λ n. s < n) takes.0 less))),
    ))
    c.take_at-taken.ensures.some

pub loop-section-preserved : goal.loop-section-preserved
loop-section-preserved c =
    let none : is_some c.take_at-taken.result ≡ false = search rules in
    let told = IfNone-of c.take_at-taken.result none c.take_at-taken.ensures.none in
    record {
      same = search rules;
      stays = Stays-both _ _ _ c.loop-section.invariant.stays told.0;
      from = omega (arith, c.loop-section.invariant.from);
      closed = closed-more c.args.limit c.args.first c.loop-section.section _ _ told.0.never_falls c.loop-section.invariant.closed told.1;
    }
