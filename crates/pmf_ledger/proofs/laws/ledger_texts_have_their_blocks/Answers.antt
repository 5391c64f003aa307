use Rattle.pmf_ledger.proofs.lemmas.RawTextOnceLemmas.{ledger_raw}
use Rattle.pmf_ledger.proofs.laws.ledger_texts_have_their_blocks.Goals as goal

pub returns : goal.returns
returns c = ledger_raw
