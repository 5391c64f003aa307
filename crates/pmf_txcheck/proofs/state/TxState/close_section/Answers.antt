use Rattle.pmf_txcheck.proofs.TrackLemmas.{close-nothing, close-unclosed}
use Rattle.pmf_txcheck.proofs.state.TxState.close_section.Goals as goal

pub returns-in-None : goal.returns-in-None
returns-in-None c = λ told es p tracks. close-nothing c.args.self.now told es p tracks c.in-None.is

pub returns-in-Some : goal.returns-in-Some
returns-in-Some c = λ told es p tracks. close-unclosed c.args.self.now told es p tracks c.in-Some.start c.in-Some.is
