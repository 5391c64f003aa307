use Rattle.pmf_words.proofs.commands.with_run_and_profile.Goals as goal

pub returns : goal.returns
returns c =
    let profile = c.profile.ensures.rule in (
      profile.0,
      λ words has. c.with_option.ensures _ _ (c.with_option-command.ensures words _ has c.run.ensures.rule c.run.ensures.local) profile.1 c.profile.ensures.local,
    )
