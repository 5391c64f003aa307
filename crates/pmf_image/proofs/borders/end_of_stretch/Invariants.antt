use Rattle.pmf_image.proofs.BorderLemmas.{StretchesTo}
use Rattle.pmf_image.proofs.borders.end_of_stretch.Given as goal

abbrev pub invariant-loop-index : goal.invariant-loop-index
invariant-loop-index l = StretchesTo l.events l.fn.certificate l.byte l.end l.index l.stretch_end
