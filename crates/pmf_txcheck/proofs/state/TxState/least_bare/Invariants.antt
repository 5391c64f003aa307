use Rattle.std.proofs.Common.{◌-◌}
use Rattle.pmf_txcheck.proofs.SearchLemmas.{NoneBare}
use Rattle.pmf_txcheck.proofs.state.TxState.least_bare.Given as goal

abbrev pub invariant-loop-bare : goal.invariant-loop-bare
invariant-loop-bare l = NoneBare l.self l.shadow l.first l.at

abbrev pub decreases-loop-bare : goal.decreases-loop-bare
decreases-loop-bare l = l.end - l.at
