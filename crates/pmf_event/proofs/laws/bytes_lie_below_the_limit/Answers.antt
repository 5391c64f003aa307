use Rattle.pmf_event.proofs.LimitLemmas.{bytes_lie_below_the_limit}
use Rattle.pmf_event.proofs.laws.bytes_lie_below_the_limit.Goals as goal

pub returns : goal.returns
returns c = bytes_lie_below_the_limit
