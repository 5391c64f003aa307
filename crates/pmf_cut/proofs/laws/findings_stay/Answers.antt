use Rattle.pmf_cut.proofs.CutLemmas.{findings-stay}
use Rattle.pmf_cut.proofs.laws.findings_stay.Goals as goal

pub returns : goal.returns
returns c = findings-stay
