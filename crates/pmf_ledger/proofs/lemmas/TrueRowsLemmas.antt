-- The rows of every checked section are true, by the laws of verdicts.
use Rattle.std.proofs.Common.{List, All, rules}
use Rattle.pmf_verdict.{specs.Checked.{Checked}, proofs.HoldingLemmas.{rows_exact, same_lines}, proofs.KeptLemmas.{rows_told}, proofs.FitLemmas.{failures_real}, proofs.SoundLemmas.{passes_hold, orders_hold, scopes_hold}}
use Rattle.pmf_ledger.specs.TrueRows.{HasTrueRows}

pub rows_true : (checked : Checked) → HasTrueRows checked
rows_true checked = search (rules, passes_hold, orders_hold, scopes_hold, failures_real, rows_exact, same_lines, rows_told)

pub all_rows_true : (sections : List Checked) → All HasTrueRows sections
all_rows_true sections = λ k d within. rows_true _
