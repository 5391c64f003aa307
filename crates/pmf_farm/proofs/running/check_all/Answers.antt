use Rattle.std.proofs.{Common.{◌≡◌, map, List, subst, ◌∙◌, IsPermutation}, lemmas.List.Sorted.{IsPermutation-map}}
use Rattle.std.specs.List.{AllZip}
use Rattle.pmf_event.specs.{declared.profile.Profile.{Profile}, Section.{Trace}}
use Rattle.pmf_ledger.specs.{Gathered.{IsLedgerOf}, LedgerValue.{LedgerValue}}
use Rattle.pmf_verdict.specs.Checked.{checked_by}
use Rattle.pmf_farm.{specs.Rolls.{Slotted, Stays, checks, sections_of, slots_by}, proofs.lemmas.GatherLemmas.{IsLedgerOf-permuted}, proofs.lemmas.RollLemmas.{checks-slots, stays-checks, stays-rises}}
use Rattle.pmf_farm.proofs.running.check_all.Goals as goal

-- the ledger of what stays of the roll that was called is that of the sections
of_sections : (profile : Profile) (sections : List Trace) (called roll : List Slotted) (ledger : LedgerValue) → IsPermutation (slots_by profile sections) called →
    checks roll ≡ checks called → IsLedgerOf profile (sections_of (checks roll)) ledger → IsLedgerOf profile sections ledger
of_sections profile sections called roll ledger same stays gathered =
    let moved : IsPermutation (map (checked_by profile) sections) (checks called) =
    subst (λ xs. IsPermutation xs (checks called)) (checks-slots profile sections) (IsPermutation-map (λ s. s.checked) (slots_by profile sections) called same) in
    IsLedgerOf-permuted profile sections (checks called) ledger moved (subst (λ xs. IsLedgerOf profile (sections_of xs) ledger) stays gathered)

pub returns-then-are_filled-clause-ledger : goal.returns-then-are_filled-clause-ledger
returns-then-are_filled-clause-ledger g c =
    let called = c.in_ok-called.called.items in let roll = c.keep_known-roll.result.items in
    of_sections c.args.profile (map (λ s. s.value) c.args.sections.now) called roll c.in_ok-ledger.ledger c.in_ok-called.ensures.same (stays-checks called roll c.keep_known-roll.ensures) c.in_ok-ledger.ensures

pub farm_out-roll-requires-clause-rises : goal.farm_out-roll-requires-clause-rises
farm_out-roll-requires-clause-rises g c = λ κs lives. stays-rises c.in_ok-called.called.items c.keep_known-roll.result.items c.keep_known-roll.ensures c.in_ok-called.ensures.rises

pub returns-clause-ledger : goal.returns-clause-ledger
returns-clause-ledger g c =
    let called = c.in_ok-called.called.items in let roll = c.keep_known-roll.result.items in let farmed = c.farm_out-roll.result.items in
    of_sections c.args.profile (map (λ s. s.value) c.args.sections.now) called farmed c.in_ok-ledger-2.ledger c.in_ok-called.ensures.same
    (stays-checks roll farmed c.farm_out-roll.ensures ∙ stays-checks called roll c.keep_known-roll.ensures) c.in_ok-ledger-2.ensures
