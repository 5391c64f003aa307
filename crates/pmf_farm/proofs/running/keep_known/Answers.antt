use Rattle.std.proofs.{Common.{arith}, lemmas.{Grind.{common_steps}, List.{with_items_is}, List.Elements.{length_all_zip}}}
use Rattle.pmf_farm.proofs.lemmas.RollLemmas.{stays_itself, stays-then_keeps}
use Rattle.pmf_farm.proofs.running.keep_known.Goals as goal

pub returns-in-Some : goal.returns-in-Some
returns-in-Some c = grind (arith, common_steps, length_all_zip, with_items_is, stays_itself c.args.roll.items, stays-then_keeps)
