use Rattle.std.proofs.Common.{subst, sym, arith}
use Rattle.pmf_shadow.specs.Standing.{AllLeaveOpen}
use Rattle.pmf_lint.proofs.LeavingLemmas.{left_none}
use Rattle.pmf_lint.proofs.leaving.Left.by_runs.Goals as goal

pub loop-first-init : goal.loop-first-init
loop-first-init c = record {
  within = omega arith;
  left = λ es long stands.
      left_none es _ c.args.places long c.in_ok-none_of.ensures.long c.in_ok-none_of.ensures.none c.in_ok-none_of-2.ensures.long c.in_ok-none_of-2.ensures.none;
}

pub loop-first-preserved : goal.loop-first-preserved
loop-first-preserved c = record {
  within = c.open_from-end.ensures.within;
  left = λ es long stands.
      c.mark.ensures es c.loop-first.first c.open_from-end.result.1 c.open_from-end.ensures.further
      (subst (λ n. AllLeaveOpen (λ k. k) es n c.loop-first.first c.open_from-end.result.1 c.open_from-end.result.0) (sym long) (c.open_from-end.ensures.opened (λ k. k) es c.args.places stands))
      (c.loop-first.invariant.left es long stands);
}
