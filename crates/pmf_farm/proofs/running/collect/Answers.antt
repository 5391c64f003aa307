use Rattle.std.proofs.{Common.{arith}, lemmas.Grind.{common_steps}}
use Rattle.std.{proofs.Common.{subst, sym}, proofs.lemmas.List.{with_items_is}, proofs.lemmas.List.Elements.{length_all_zip}}
use Rattle.pmf_farm.{specs.Rolls.{RollRises}, proofs.lemmas.RollLemmas.{stays-rises, stays-then_keeps}}
use Rattle.pmf_farm.proofs.running.collect.Goals as goal

pub keep-requires : goal.keep-requires
keep-requires g c = subst RollRises (sym c.as_mut_slice.ensures.value) (stays-rises c.args.roll.items c.loop-verdict.roll.items c.loop-verdict.invariant c.requires)

pub loop-verdict-preserved : goal.loop-verdict-preserved
loop-verdict-preserved g c = grind (arith, common_steps, length_all_zip, with_items_is, stays-then_keeps)
