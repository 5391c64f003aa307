use Rattle.pmf_runs.proofs.group.renewed.Goals as goal

pub returns-else-has_unsettled : goal.returns-else-has_unsettled
returns-else-has_unsettled g c = λ d b. c.settled.ensures _ (c.requires d b) (c.has_unsettled.ensures c.if-has_unsettled.false d b)
