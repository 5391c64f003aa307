use Rattle.pmf_words.proofs.RequestLemmas.{added-subcommand}
use Rattle.pmf_words.proofs.commands.with.Goals as goal

pub returns : goal.returns
returns c = λ words more has own. added-subcommand _ _ _ words more has own c.added.ensures
