use Rattle.std.proofs.Common.{◌∙◌}
use Rattle.pmf_ledger.{specs.BlockReading.{without_blocks}, proofs.lemmas.ReadingLemmas.{own_profile}}
use Rattle.pmf_ledger.proofs.block_lines.BlockLines.profile.Goals as goal

pub returns : goal.returns
returns c = λ r line are. c.profile.ensures ∙ own_profile (without_blocks r) _ are.stands.0
