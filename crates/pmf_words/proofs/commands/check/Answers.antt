use Rattle.pmf_words.proofs.commands.check.Goals as goal

pub returns : goal.returns
returns c =
    let shared = c.with_run_and_profile-check.ensures in
    let settings = shared.1 _ (c.with_option-check.ensures _ _ c.head.ensures c.workers.ensures.rule c.workers.ensures.local) in (
      shared.0,
      c.with_option.ensures _ _ (c.with_option-check-3.ensures _ _ (c.with_option-check-2.ensures _ _ settings c.ledger.ensures.rule c.ledger.ensures.local) c.strict.ensures.rule c.strict.ensures.local)
          c.log_file.ensures.rule c.log_file.ensures.local,
    )
