use Rattle.std.proofs.{Common.{arith}, lemmas.List.{length_push}, lemmas.Grind.{common_steps}}
use Rattle.pmf_lint.proofs.InsideLemmas.{inside_from}
use Rattle.pmf_lint.proofs.inside.places_inside.Goals as goal

pub loop-index-preserved : goal.loop-index-preserved
loop-index-preserved c = grind (arith, common_steps, length_push, inside_from)
