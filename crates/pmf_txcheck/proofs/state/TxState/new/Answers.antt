use Rattle.std.proofs.Common.{refl}
use Rattle.pmf_txcheck.proofs.TrackLemmas.{tracks-empty}
use Rattle.pmf_txcheck.proofs.state.TxState.new.Goals as goal

pub returns : goal.returns
returns c = λ told es. tracks-empty _ told es refl refl
