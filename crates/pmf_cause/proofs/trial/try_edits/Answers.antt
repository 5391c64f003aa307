use Rattle.std.proofs.Common.{rules}
use Rattle.pmf_cause.proofs.TrialLemmas.{trial_made, cured_is}
use Rattle.pmf_cause.proofs.trial.try_edits.Goals as goal

pub returns : goal.returns
returns c =
    trial_made c.args.verdict.now c.args.edits.now _ c.in-Ok.made.places.items
    (cured_is c.args.verdict.now c.args.edits.now c.in-Ok-check.checked c.in-Ok.made.section c.in_ok-section.section.value (search rules) (search rules) (search rules)) (search rules) (search rules) (search rules) (search rules) (search rules)
