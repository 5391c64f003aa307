use Rattle.std.proofs.Common.{List}
use Rattle.pmf_event.specs.declared.event.Event.{Event}
use Rattle.pmf_cut.specs.Parts.{BeginsWith, Stands}
use Rattle.pmf_cut.proofs.renewing.part_of.Given as goal

abbrev pub invariant-loop-event : goal.invariant-loop-event
invariant-loop-event l = (gs : List Event) → BeginsWith gs l.events → Stands l.part gs l.event-index
