use Rattle.pmf_words.proofs.commands.explain_rows.Goals as goal

pub returns : goal.returns
returns c =
    let shared = c.with_run_and_profile-explain.ensures in
    let rows = shared.1 _ (c.with_option-explain-2.ensures _ _ (c.with_option-explain.ensures _ _ c.head.ensures c.all.ensures.rule c.all.ensures.local) c.first_rows.ensures.rule c.first_rows.ensures.local) in
    (shared.0, c.with_option.ensures _ _ rows c.log_file.ensures.rule c.log_file.ensures.local)
