use Rattle.std.proofs.Common.{refl}
use Rattle.pmf_shadow.proofs.StandsLemmas.{stands-empty}
use Rattle.pmf_shadow.proofs.shadow.Shadow.with_front.Goals as goal

pub returns : goal.returns
returns c = λ told es. stands-empty _ told es refl c.new.ensures
