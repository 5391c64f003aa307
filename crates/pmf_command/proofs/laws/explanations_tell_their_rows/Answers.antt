use Rattle.pmf_command.proofs.ExplanationLemmas.{explanations_tell}
use Rattle.pmf_command.proofs.laws.explanations_tell_their_rows.Goals as goal

pub returns : goal.returns
returns c = explanations_tell
