use Rattle.pmf_board.proofs.lemmas.MachineLemmas.{steps_on_words, done_is_frozen, keep_the_rule}
use Rattle.pmf_board.proofs.laws.words_follow_the_machine.Goals as goal

pub returns-clause-words : goal.returns-clause-words
returns-clause-words c = steps_on_words

pub returns-clause-frozen : goal.returns-clause-frozen
returns-clause-frozen c = done_is_frozen

pub returns-clause-rule : goal.returns-clause-rule
returns-clause-rule c = keep_the_rule
