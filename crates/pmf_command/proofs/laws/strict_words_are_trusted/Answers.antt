use Rattle.pmf_command.proofs.CheckedLemmas.{words_trusted}
use Rattle.pmf_command.proofs.laws.strict_words_are_trusted.Goals as goal

pub returns : goal.returns
returns c = words_trusted
