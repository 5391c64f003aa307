use Rattle.std.proofs.Common.{◌≡◌}
use Rattle.pmf_cut.proofs.cutter.Cutter.finish.Given as goal

abbrev pub invariant-loop-file : goal.invariant-loop-file
invariant-loop-file l = (l.self.outputs ≡ l.initial.self.outputs) × (l.self.sections ≡ l.initial.self.sections)
