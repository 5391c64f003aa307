use Rattle.std.proofs.Common.{take, string_bytes}
use Rattle.pmf_world.specs.Playing.{PlaysAll}
use Rattle.pmf_world.proofs.playing.play_all.Given as goal

abbrev pub invariant-loop-index : goal.invariant-loop-index
invariant-loop-index l = PlaysAll l.fn.world (take l.index l.steps) l.world (string_bytes l.text)
