use Rattle.std.{proofs.Common.{length}, specs.List.{slice_split}}
use Rattle.pmf_world.{specs.Schedule.{is_line_end}, proofs.lemmas.ScheduleLemmas.{IsAt}}
use Rattle.pmf_world.proofs.schedule.read_schedule.Given as goal

abbrev pub invariant-loop-line : goal.invariant-loop-line
invariant-loop-line l = IsAt (slice_split is_line_end l.text) (length l.yielded) l.number l.steps.items
