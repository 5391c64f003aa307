-- What a count of no row tells of each section.
use Rattle.std.proofs.{Common.{◌≡◌, true, List, refl, arith, Contains}, lemmas.List.Sums.{sum_by-cons}, lemmas.Grind.{common_steps}}
use Rattle.pmf_verdict.{specs.declared.outcome.Outcome.{Outcome}, specs.declared.outcome.Outcome.TheVariants.{Fail, Empty}, specs.Outcome.{is_same}, specs.Checked.{Checked, rows_in, checked_by}, specs.Kept.{HasNone}, proofs.KeptLemmas.{rows_told}}
use Rattle.pmf_ledger.specs.{Report.{rows_with, rows_with_in, totals_of}, AllKept.{NoFailIsKept, NoEmptyIsFilled}}

none-counted : (outcome : Outcome) → is_same outcome outcome ≡ true → (sections : List Checked) (c : Checked) → rows_with_in outcome sections ≡ 0 → Contains sections c → HasNone outcome (rows_in c)
unfolding rows_with_in rows_with
none-counted outcome same sections c none here row found counts = grind (arith, common_steps, sum_by-cons)

pub no_fail_is_kept : NoFailIsKept
unfolding totals_of is_same
no_fail_is_kept profile set ledger is none s found =
    (rows_told ledger.profile s.events).kept (none-counted Fail refl ledger.sections (checked_by ledger.profile s) none ((is.same s).1 found))

pub no_empty_is_filled : NoEmptyIsFilled
unfolding totals_of is_same
no_empty_is_filled profile set ledger is none s found =
    (rows_told ledger.profile s.events).filled (none-counted Empty refl ledger.sections (checked_by ledger.profile s) none ((is.same s).1 found))
