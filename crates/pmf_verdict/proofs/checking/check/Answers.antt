use Rattle.pmf_verdict.proofs.checking.check.Goals as goal

pub returns-clause-checked : goal.returns-clause-checked
returns-clause-checked c = c.finish.ensures.checked c.args.profile _ c.new.ensures
