use Rattle.std.proofs.Common.{ℕ, List, sym, subst, arith}
use Rattle.pmf_query.{specs.Standing.{HasWalked}, proofs.{CursorLemmas.{anew_first, records_of_nil}, UsualLemmas.{none_refused}}}
use Rattle.pmf_query.proofs.standing.Standing.of_faultless.Goals as goal

pub loop-found-init : goal.loop-found-init
loop-found-init c = record {
  within = omega arith;
  anew = anew_first c.args.log.now;
  walked = subst (λ (records : List (List ℕ)). HasWalked c.args.log.now records c.none-walked.result) (sym records_of_nil) (c.none-walked.ensures.walked c.args.log.now);
  few = omega (arith, c.none-walked.ensures.none);
}

pub pass_sound-requires-clause-sound : goal.pass_sound-requires-clause-sound
pass_sound-requires-clause-sound c = none_refused c.args.log.now c.loop-found.start _ _ _ c.requires c.in-Some.ensures

pub loop-found-preserved : goal.loop-found-preserved
loop-found-preserved c = record {
  within = c.in-Some.ensures.within;
  anew = c.in-Some.ensures.anew;
  walked = c.in_ok-pass_sound.ensures.walked c.args.log.now c.loop-found.start c.in-Some.ensures c.loop-found.invariant.walked;
  few = omega (arith, c.in_ok-pass_sound.ensures.count, c.loop-found.invariant.few, c.in-Some.ensures.further);
}
