use Rattle.pmf_cut.specs.Deferred.{TakesFirst}
use Rattle.pmf_cut.proofs.deferred.take_all.Given as goal

abbrev pub invariant-loop-event : goal.invariant-loop-event
invariant-loop-event l = TakesFirst l.fn.part l.part l.events l.event-index
