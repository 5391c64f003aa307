use Rattle.std.proofs.Common.{◌≡◌, [], take}
use Rattle.pmf_query.specs.RecordNames.{known_names}
use Rattle.pmf_lint.specs.Naming.{Count, names_in}
use Rattle.pmf_lint.proofs.naming.known_counts.Given as goal

abbrev pub invariant-loop-index : goal.invariant-loop-index
invariant-loop-index l = record { names : names_in l.counts.items ≡ take l.index known_names; none : Count l.counts.items [] }
