use Rattle.pmf_words.proofs.commands.explain_event.Goals as goal

pub returns : goal.returns
returns c =
    let shared = c.with_run_and_profile-explain.ensures in
    let event = shared.1 _ (c.with_option-explain-3.ensures _ _ (c.with_option-explain-2.ensures _ _ (c.with_option-explain.ensures _ _ c.head.ensures
    c.section.ensures.rule c.section.ensures.local) c.event.ensures.rule c.event.ensures.local) c.all.ensures.rule c.all.ensures.local) in
    (shared.0, c.with_option.ensures _ _ event c.log_file.ensures.rule c.log_file.ensures.local)
