use Rattle.std.proofs.Common.{ℕ, List, ◌++◌}
use Rattle.pmf_lint.{specs.Counting.{Lists}, specs.StoreNames.{names_among}, proofs.StoreNameLemmas.{is_marked}}
use Rattle.pmf_lint.proofs.storing.take_marked.Given as goal

abbrev pub invariant-loop-index : goal.invariant-loop-index
invariant-loop-index l = (names : List (List ℕ)) → Lists l.initial.listing names → Lists l.listing (names ++ names_among (is_marked l.marks) l.located l.index)
