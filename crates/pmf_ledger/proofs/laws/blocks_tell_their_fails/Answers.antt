use Rattle.pmf_ledger.proofs.lemmas.RawTextOnceLemmas.{block_fails}
use Rattle.pmf_ledger.proofs.laws.blocks_tell_their_fails.Goals as goal

pub returns : goal.returns
returns c = block_fails
