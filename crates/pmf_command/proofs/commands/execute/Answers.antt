use Rattle.std.proofs.Common.{refl, rules}
use Rattle.pmf_command.proofs.commands.execute.Goals as goal

pub answer_words-requires-sync-T : goal.answer_words-requires-sync-T
answer_words-requires-sync-T g c κs within = (search rules, ((refl, tt), (search rules, (search rules, search rules))))
