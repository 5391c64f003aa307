use Rattle.pmf_storelog.proofs.ProgressLemmas.{parsed_none}
use Rattle.pmf_storelog.proofs.progress.Progress.new.Goals as goal

pub returns-clause-parsed : goal.returns-clause-parsed
returns-clause-parsed c = parsed_none c.args.run _ c.new.ensures.taken c.new-2.ensures.items
