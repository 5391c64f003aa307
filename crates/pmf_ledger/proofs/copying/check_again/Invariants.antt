use Rattle.std.proofs.Common.{◌≡◌, map, take}
use Rattle.pmf_ledger.specs.Gathered.{upgraded}
use Rattle.pmf_ledger.proofs.copying.check_again.Given as goal

abbrev pub invariant-loop-verdict : goal.invariant-loop-verdict
invariant-loop-verdict l = l.again.items ≡ map upgraded (take l.verdict-index l.verdicts)
