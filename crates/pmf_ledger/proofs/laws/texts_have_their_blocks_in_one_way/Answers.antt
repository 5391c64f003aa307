use Rattle.pmf_ledger.proofs.lemmas.RawTextOnceLemmas.{raw_once}
use Rattle.pmf_ledger.proofs.laws.texts_have_their_blocks_in_one_way.Goals as goal

pub returns : goal.returns
returns c = raw_once
