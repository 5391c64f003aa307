use Rattle.std.proofs.Common.{ℕ, List, sym, subst, arith}
use Rattle.pmf_query.{specs.Passing.{HasPassed}, proofs.CursorLemmas.{anew_first, records_of_nil}}
use Rattle.pmf_query.proofs.locate.find_event.Goals as goal

pub loop-found-init : goal.loop-found-init
loop-found-init c = record {
  within = omega arith;
  anew = anew_first c.args.log.now;
  passed = subst (λ (records : List (List ℕ)). HasPassed c.args.section records c.none-passed.result) (sym records_of_nil) (c.none-passed.ensures.passed c.args.section);
  few = omega (arith, c.none-passed.ensures.none);
  fewer = omega (arith, c.none-passed.ensures.no_event);
  below = omega (arith, c.none-passed.ensures.no_event);
}
