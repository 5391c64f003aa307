use Rattle.pmf_words.proofs.commands.program.Goals as goal

pub returns : goal.returns
returns c =
    let check = c.check.ensures in
    let explain = c.explain.ensures in
    let why = c.why.ensures in (
      check.0,
      explain.0,
      why.0,
      c.with_files.ensures _ (c.with-program-6.ensures _ _ (c.with-program-5.ensures _ _ (c.with-program-4.ensures _ _ (c.with-program-3.ensures _ _ (c.with-program-2.ensures _ _ (c.with-program.ensures _ _ c.no_command.ensures
          check.1) explain.1) why.1) c.locate.ensures) c.lint.ensures) c.cut.ensures),
    )
