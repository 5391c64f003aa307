use Rattle.std.proofs.Common.{refl, None}
use Rattle.pmf_txcheck.proofs.TrackLemmas.{tracks-closed, follows-from}
use Rattle.pmf_txcheck.proofs.state.TxState.check_end.Goals as goal

pub returns-clause-follows : goal.returns-clause-follows
returns-clause-follows c = λ place. follows-from place c.args.self.now _ _ (λ told es p here at_place tracks. tracks-closed c.args.self.now told es p tracks None refl here)
