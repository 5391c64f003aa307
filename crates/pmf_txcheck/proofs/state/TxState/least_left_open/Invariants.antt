use Rattle.std.proofs.Common.{◌-◌}
use Rattle.pmf_event.specs.declared.span.TheConstants.{ADDRESS_LIMIT}
use Rattle.pmf_txcheck.proofs.SearchLemmas.{NoneOpen}
use Rattle.pmf_txcheck.proofs.state.TxState.least_left_open.Given as goal

abbrev pub invariant-loop-first : goal.invariant-loop-first
invariant-loop-first l = NoneOpen l.self l.shadow l.at

abbrev pub decreases-loop-first : goal.decreases-loop-first
decreases-loop-first l = ADDRESS_LIMIT - l.at
