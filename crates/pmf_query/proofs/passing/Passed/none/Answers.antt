use Rattle.std.proofs.Common.{refl}
use Rattle.pmf_query.proofs.PassedLemmas.{passed_none}
use Rattle.pmf_query.proofs.passing.Passed.none.Goals as goal

pub returns-clause-passed : goal.returns-clause-passed
returns-clause-passed c = λ section. passed_none section _ refl refl refl
