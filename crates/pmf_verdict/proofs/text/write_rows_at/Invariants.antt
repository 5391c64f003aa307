use Rattle.std.proofs.Common.{◌≡◌, take, string_bytes}
use Rattle.pmf_verdict.specs.Text.{text_of_rows, rows_at}
use Rattle.pmf_verdict.proofs.text.write_rows_at.Given as goal

abbrev pub invariant-loop-row : goal.invariant-loop-row
invariant-loop-row l = string_bytes l.text ≡ text_of_rows (rows_at (take l.row-index l.row-items) l.fn.place)
