use Rattle.pmf_cut.proofs.OutputLemmas.{Drained}
use Rattle.pmf_cut.proofs.output.Outputs.drain.Given as goal

abbrev pub invariant-loop-file : goal.invariant-loop-file
invariant-loop-file l = Drained l.initial.self l.file-items l.file-index l.texts.items l.self
