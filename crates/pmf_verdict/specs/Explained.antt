-- Certificates of failed assertions: the crash image that shows the failure.
use Rattle.std.specs.Prelude.{◌≡◌, ℕ, List, Option, None, Some, Contains}
use Rattle.pmf_event.specs.{declared.event.Event.{Event}, declared.finding.Finding.{Finding}, declared.finding.Finding.TheVariants.{PersistFail, OrderedFail, CheckFail}, declared.row.Row.{Row}, Line.{line_of_byte}}
use Rattle.pmf_image.specs.{declared.certificate.Certificate.{Certificate}, Image.{IsAllowed}, Certificate.{Fits, image_of}, Contradiction.{Contradicts}}
use Rattle.pmf_verdict.specs.Rows.{row_at}

-- the certificate of what is found at p: of a failed persist assertion, and of a scope that failed, a crash
-- at p with no full line; of a failed order assertion a crash at the row's crash place, with the line of the
-- second byte in full; of anything else none
abbrev pub certificate_of : ℕ → Finding → Option Certificate
certificate_of p (PersistFail byte) = Some (record { crash = p; full_line = None })
certificate_of p (OrderedFail byte after crash) = Some (record { crash = crash; full_line = Some (line_of_byte after) })
certificate_of p (CheckFail byte) = Some (record { crash = p; full_line = None })
certificate_of p _ = None

-- what certificate the rows give at p: that of a row there; none only where no row there has one
abbrev pub Explains : List Row → ℕ → Option Certificate → Type 0
Explains rows p (Some c) = (f : Finding) × Contains rows (row_at p f) × (certificate_of p f ≡ Some c)
Explains rows p None = (f : Finding) → Contains rows (row_at p f) → certificate_of p f ≡ None

-- each certificate that the rows give speaks of these events, and its image is allowed and contradicts the
-- assertion at the row's place
abbrev pub FailuresAreReal : List Event → List Row → Type 0
FailuresAreReal es rows = (p : ℕ) (c : Certificate) → Explains rows p (Some c) →
    Fits es c × IsAllowed es c.crash (image_of es c) × Contradicts es p c
