use Rattle.pmf_words.proofs.commands.with_files.Goals as goal

pub returns : goal.returns
returns c = λ words has.
    c.with.ensures _ _ (c.with-program.ensures _ _ has c.join.ensures) c.sim.ensures
