use Rattle.pmf_words.proofs.commands.cut.Goals as goal

pub returns : goal.returns
returns c =
    let lengths = c.with_option-cut-2.ensures _ _ (c.with_option-cut.ensures _ _ c.head.ensures c.events.ensures.rule c.events.ensures.local) c.step.ensures.rule c.step.ensures.local in
    c.with_option.ensures _ _ (c.with_option-cut-3.ensures _ _ lengths c.files.ensures.rule c.files.ensures.local) c.bytes.ensures.rule c.bytes.ensures.local
