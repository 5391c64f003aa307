use Rattle.std.proofs.Common.{◌≡◌, ◌++◌, filter, take, string_bytes}
use Rattle.pmf_verdict.specs.Text.{text_of_rows}
use Rattle.pmf_ledger.specs.Summary.{is_amiss}
use Rattle.pmf_ledger.proofs.summing.push_amiss.Given as goal

abbrev pub invariant-loop-row : goal.invariant-loop-row
invariant-loop-row l = string_bytes l.text ≡ string_bytes l.initial.text ++ text_of_rows (filter is_amiss (take l.row-index l.row-items))
