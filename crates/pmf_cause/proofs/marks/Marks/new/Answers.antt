use Rattle.pmf_cause.proofs.MarksLemmas.{none}
use Rattle.pmf_cause.proofs.marks.Marks.new.Goals as goal

pub returns : goal.returns
returns c = none
