use Rattle.std.proofs.Common.{refl}
use Rattle.pmf_query.proofs.StandingLemmas.{walked_none}
use Rattle.pmf_query.proofs.standing.Walked.none.Goals as goal

pub returns-clause-walked : goal.returns-clause-walked
returns-clause-walked c = λ bytes. walked_none bytes _ refl refl c.new.ensures.empty
