use Rattle.pmf_ledger.proofs.lemmas.GatheringLemmas.{gives_ledger}
use Rattle.pmf_ledger.proofs.laws.gatherings_give_the_ledger_of_their_set.Goals as goal

pub returns : goal.returns
returns c = gives_ledger
