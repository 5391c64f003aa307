use Rattle.std.proofs.Common.{◌≡◌, ◌++◌, take, string_bytes}
use Rattle.pmf_verdict.specs.Text.{text_of_rows}
use Rattle.pmf_ledger.proofs.writing.push_rows.Given as goal

abbrev pub invariant-loop-row : goal.invariant-loop-row
invariant-loop-row l = string_bytes l.text ≡ string_bytes l.initial.text ++ text_of_rows (take l.row-index l.row-items)
