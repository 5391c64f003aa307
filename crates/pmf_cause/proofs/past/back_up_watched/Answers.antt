use Rattle.pmf_places.proofs.PlaceLemmas.{not_added}
use Rattle.pmf_cause.proofs.WatchLemmas.{not_added_here}
use Rattle.pmf_cause.proofs.past.back_up_watched.Goals as goal

pub returns-else-are_met : goal.returns-else-are_met
returns-else-are_met c = λ b has. not_added_here c.args.added.now c.args.place c.args.event.now c.in-TxAdd.span c.in-TxAdd.is b (c.are_met.ensures c.if-are_met.false b has)

pub returns-in_default : goal.returns-in_default
returns-in_default c = λ b has. not_added c.args.added.now c.args.place c.args.event.now c.in_default.not-TxAdd b
