use Rattle.pmf_shadow.proofs.StandingLemmas.{stands-so}
use Rattle.pmf_shadow.proofs.shadow.Shadow.standing_from.Goals as goal

pub returns-clause-stands : goal.returns-clause-stands
returns-clause-stands c = λ told es p stands b low high.
    let is = c.standing_of.ensures in
    stands-so c.args.self.now told es p b c.at-state.result c.standing_of.result stands (c.end_of_run-until.ensures.same b low high) is.last is.undurable is.unwritten is.excluded
