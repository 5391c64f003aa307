use Rattle.pmf_words.proofs.RequestLemmas.{added-arg}
use Rattle.pmf_words.proofs.commands.with_option.Goals as goal

pub returns : goal.returns
returns c = λ words rule has is local. added-arg _ _ _ words rule has is local c.added.ensures
