use Rattle.pmf_cause.proofs.proposing.propose.Goals as goal

pub loop-index-init : goal.loop-index-init
loop-index-init c = c.new-reach.ensures c.events-events.result.now
