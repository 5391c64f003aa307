use Rattle.pmf_words.proofs.commands.locate.Goals as goal

pub returns : goal.returns
returns c =
    let event = c.with_option-locate-2.ensures _ _ (c.with_option-locate.ensures _ _ c.head.ensures c.section.ensures.rule c.section.ensures.local) c.event.ensures.rule c.event.ensures.local in
    c.with_option.ensures _ _ (c.with_option-locate-3.ensures _ _ event c.run.ensures.rule c.run.ensures.local) c.log_file.ensures.rule c.log_file.ensures.local
