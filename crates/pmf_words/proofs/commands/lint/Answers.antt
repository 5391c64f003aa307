use Rattle.pmf_words.proofs.commands.lint.Goals as goal

pub returns : goal.returns
returns c =
    c.with_option.ensures _ _ (c.with_option-lint.ensures _ _ c.head.ensures c.unasserted.ensures.rule c.unasserted.ensures.local) c.log_file.ensures.rule c.log_file.ensures.local
