-- Failures are real: a certificate that the rows give speaks of the section's events, and its image is allowed
-- and contradicts the assertion.
use Rattle.std.proofs.Common.{◌≡◌, ℕ, ◌≤◌, List, length, refl, ap, arith, subst, Some, None, Contains}
use Rattle.pmf_event.{specs.declared.event.Event.{Event}, specs.declared.event.Event.TheVariants.{Persist, Ordered, CheckEnd}, specs.declared.finding.Finding.{Finding}, specs.declared.finding.Finding.TheVariants.{PersistFail, OrderedFail, CheckFail}, specs.declared.profile.Profile.{Profile}, specs.Line.{line_of_byte}}
use Rattle.pmf_image.{specs.declared.certificate.Certificate.{Certificate}, specs.Certificate.{Fits}, specs.Contradiction.{ContradictsEvent}, proofs.FailureLemmas.{certificates-allowed}}
use Rattle.pmf_verdict.{specs.Rows.{row_at, rows_of}, specs.Explained.{certificate_of, FailuresAreReal}, proofs.KindLemmas.{persist-from_rows, ordered-from_rows, check-from_rows}, proofs.RowsLemmas.{place-within}, proofs.ExplainLemmas.{contradicted-by}}

bare-fits : (es : List Event) (p : ℕ) → p ≤ length es → Fits es (record { crash = p; full_line = None })
bare-fits es p within = record { crash = within; full_line = λ line is. let bad : None ≡ Some line = is in cc }

full-fits : (es : List Event) (n y : ℕ) → n ≤ length es → Fits es (record { crash = n; full_line = Some (line_of_byte y) })
full-fits es n y within = grind arith

certificate-fits : (profile : Profile) (es : List Event) (p : ℕ) (c : Certificate) (f : Finding) → Contains (rows_of profile es) (row_at p f) → certificate_of p f ≡ Some c → Fits es c
certificate-fits profile es p c (PersistFail b) found is =
    let own = persist-from_rows profile es p (PersistFail b) found refl in
    let same : record { crash = p; full_line = None } ≡ c = cc in
    subst (λ k. Fits es k) same (bare-fits es p (place-within es p (Persist own.0) own.1).1)
certificate-fits profile es p c (OrderedFail x y n) found is =
    let own = ordered-from_rows profile es p (OrderedFail x y n) found refl in
    let same : record { crash = n; full_line = Some (line_of_byte y) } ≡ c = cc in
    let contradicted = subst (ContradictsEvent es p c) own.2 (contradicted-by profile es p c (OrderedFail x y n) found is) in
    let crash : n ≡ c.crash = ap (λ (k : Certificate). k.crash) same in
    let within = (place-within es p (Ordered own.0 own.1) own.2).1 in
    let early = contradicted.0 in
    subst (λ k. Fits es k) same (full-fits es n y (omega arith))
certificate-fits profile es p c (CheckFail b) found is =
    let own = check-from_rows profile es p (CheckFail b) found refl in
    let same : record { crash = p; full_line = None } ≡ c = cc in
    subst (λ k. Fits es k) same (bare-fits es p (place-within es p CheckEnd own.0).1)
certificate-fits profile es p c _ found is = let bad : None ≡ Some c = is in cc

pub failures_real : (profile : Profile) (es : List Event) → FailuresAreReal es (rows_of profile es)
failures_real profile es p c source =
    (certificate-fits profile es p c source.0 source.1 source.2, certificates-allowed es c, contradicted-by profile es p c source.0 source.1 source.2)
