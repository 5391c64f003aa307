use Rattle.std.proofs.Common.{true, take}
use Rattle.pmf_cut.specs.Outputs.{Says}
use Rattle.pmf_cut.proofs.output.Outputs.say.Given as goal

abbrev pub invariant-loop-event : goal.invariant-loop-event
invariant-loop-event l = Says true l.file l.number (take l.event-index l.events) l.fn.self l.self
