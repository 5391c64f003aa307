use Rattle.pmf_merge.proofs.lemmas.TrustLemmas.{keeps_ledgers}
use Rattle.pmf_merge.proofs.laws.trust_keeps_ledgers.Goals as goal

pub returns : goal.returns
returns c = keeps_ledgers
