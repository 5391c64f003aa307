use Rattle.std.proofs.Common.{◌≡◌, take, flat_map, string_bytes}
use Rattle.pmf_ledger.{specs.Report.{text_of_section}, proofs.lemmas.CountLemmas.{Sums}}
use Rattle.pmf_ledger.proofs.ledger.Ledger.written.Given as goal

abbrev pub invariant-loop-verdict : goal.invariant-loop-verdict
invariant-loop-verdict l = record { text : string_bytes l.text ≡ flat_map text_of_section (take l.verdict-index l.verdict-items); sums : Sums l.verdict-items l.verdict-index l.totals }
