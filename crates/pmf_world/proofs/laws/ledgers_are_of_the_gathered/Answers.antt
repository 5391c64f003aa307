use Rattle.pmf_world.proofs.lemmas.GatheredLemmas.{ledgers_of_gathered}
use Rattle.pmf_world.proofs.laws.ledgers_are_of_the_gathered.Goals as goal

pub returns : goal.returns
returns c = ledgers_of_gathered
