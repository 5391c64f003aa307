use Rattle.pmf_words.proofs.commands.sim.Goals as goal

pub returns : goal.returns
returns c =
    c.with_option.ensures _ _ (c.with_option-sim-2.ensures _ _ (c.with_option-sim.ensures _ _ c.head.ensures c.log.ensures.rule c.log.ensures.local) c.asked_number-workers.ensures.rule c.asked_number-workers.ensures.local) c.asked_number-ledgers.ensures.rule c.asked_number-ledgers.ensures.local
