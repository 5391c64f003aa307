use Rattle.std.proofs.{Common.{arith}, lemmas.Grind.{common_steps}}
use Rattle.pmf_farm.proofs.lemmas.RollLemmas.{places-moved}
use Rattle.pmf_farm.proofs.queue.longest_first.Goals as goal

pub returns-clause-same : goal.returns-clause-same
returns-clause-same c = grind (arith, common_steps, places-moved)
