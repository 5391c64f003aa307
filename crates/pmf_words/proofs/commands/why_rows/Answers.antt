use Rattle.pmf_words.proofs.commands.why_rows.Goals as goal

pub returns : goal.returns
returns c =
    let shared = c.with_run_and_profile-why.ensures in
    let rows = shared.1 _ (c.with_option-why-5.ensures _ _ (c.with_option-why-4.ensures _ _ (c.with_option-why-3.ensures _ _ (c.with_option-why-2.ensures _ _ (c.with_option-why.ensures _ _ c.head.ensures
    c.only_section.ensures.rule c.only_section.ensures.local) c.only_event.ensures.rule c.only_event.ensures.local) c.first.ensures.rule c.first.ensures.local) c.all_rows.ensures.rule c.all_rows.ensures.local)
    c.patch.ensures.rule c.patch.ensures.local) in
    (shared.0, c.with_option.ensures _ _ rows c.log_file.ensures.rule c.log_file.ensures.local)
