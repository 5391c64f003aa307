use Rattle.std.proofs.Common.{◌≡◌, ◌≤◌, ◌-◌, drop, length}
use Rattle.std.specs.List.{list_any}
use Rattle.pmf_ledger.specs.{Loading.{lines_of}, RawText.{tells_fail_in}}
use Rattle.pmf_ledger.proofs.raw_text.any_tells_fail.Given as goal

abbrev pub invariant-loop-length : goal.invariant-loop-length
invariant-loop-length l = (l.at ≤ length l.rows) × (list_any tells_fail_in (lines_of l.rows) ≡ list_any tells_fail_in (lines_of (drop l.at l.rows)))

abbrev pub decreases-loop-length : goal.decreases-loop-length
decreases-loop-length l = length l.rows - l.at
