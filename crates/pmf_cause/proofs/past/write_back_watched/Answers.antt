use Rattle.pmf_places.proofs.PlaceLemmas.{not_flushed}
use Rattle.pmf_cause.proofs.WatchLemmas.{not_flushed_here}
use Rattle.pmf_cause.proofs.past.write_back_watched.Goals as goal

pub returns-else-are_met : goal.returns-else-are_met
returns-else-are_met c = λ b has. not_flushed_here c.args.flushed.now c.args.place c.args.event.now c.in-Flush.span c.in-Flush.is b (c.are_met.ensures c.if-are_met.false b has)

pub returns-in_default : goal.returns-in_default
returns-in_default c = λ b has. not_flushed c.args.flushed.now c.args.place c.args.event.now c.in_default.not-Flush b
