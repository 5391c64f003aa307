use Rattle.std.proofs.{Common.{◌≤◌, List, length, refl, ap, subst, arith}, lemmas.List.{length-drop}}
use Rattle.pmf_ledger.proofs.lemmas.TextFrontLemmas.{rest_is}
use Rattle.pmf_merge.specs.declared.ahead.Span.{Span}
use Rattle.pmf_merge.proofs.lemmas.RawFeedLemmas.{some_taken}
use Rattle.pmf_merge.proofs.ahead.Ahead.read.Goals as goal

pub loop-block-init : goal.loop-block-init
loop-block-init g c = record {
  ahead = record { each = λ k d below. let none = ap (λ (xs : List Span). length xs) c.clear.ensures.none in absurd (omega (arith, below, none)) };
  by = refl;
  within = c.requires.1;
}

pub loop-block-smaller : goal.loop-block-smaller
loop-block-smaller g c =
    let piece = c.args.piece.now in let at = c.loop-block.at in let n = c.in-Some.block.taken in let within = c.loop-block.invariant.within in
    let some = some_taken _ c.in-Some.block c.in-Some.ensures in let inside = subst (λ xs. n ≤ length xs) (rest_is piece at within) c.in-Some.ensures.0 in
    let long = length-drop at piece in omega (arith, some, inside, long, within)
