use Rattle.std.proofs.Common.{◌≡◌, take}
use Rattle.pmf_ledger.proofs.ledger.Ledger.copy.Given as goal

abbrev pub invariant-loop-verdict : goal.invariant-loop-verdict
invariant-loop-verdict l = l.verdicts.items ≡ take l.verdict-index l.verdict-items
