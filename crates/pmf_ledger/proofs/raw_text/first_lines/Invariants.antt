use Rattle.pmf_ledger.specs.RawText.{IsFirstLines}
use Rattle.pmf_ledger.proofs.raw_text.first_lines.Given as goal

abbrev pub invariant-loop : goal.invariant-loop
invariant-loop l = IsFirstLines l.bytes l.counter l.taken
