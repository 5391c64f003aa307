use Rattle.pmf_verdict.proofs.LookBackLemmas.{rows_look_back}
use Rattle.pmf_verdict.proofs.laws.rows_look_back.Goals as goal

pub returns : goal.returns
returns c = rows_look_back
