use Rattle.pmf_words.proofs.commands.why_patch.Goals as goal

pub returns : goal.returns
returns c =
    let shared = c.with_run_and_profile-why.ensures in
    let words = shared.1 _ (c.with_option-why-2.ensures _ _ (c.with_option-why.ensures _ _ c.head.ensures
    c.only_section.ensures.rule c.only_section.ensures.local) c.patch.ensures.rule c.patch.ensures.local) in
    (shared.0, c.with_option.ensures _ _ words c.log_file.ensures.rule c.log_file.ensures.local)
