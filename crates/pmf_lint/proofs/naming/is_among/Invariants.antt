use Rattle.std.proofs.Common.{◌≡◌, false, take}
use Rattle.pmf_lint.specs.Naming.{is_among, names_in}
use Rattle.pmf_lint.proofs.naming.is_among.Given as goal

abbrev pub invariant-loop-count : goal.invariant-loop-count
invariant-loop-count l = is_among (names_in (take l.count-index l.counts)) l.name ≡ false
