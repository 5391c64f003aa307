-- What explain_text answers: the text that explains one place of a section. Defined here.
use Rattle.std.specs.Prelude.{◌≡◌, ℕ, List, [], ◌∷◌, ◌++◌, codes, Option, None, Some, Ok, flat_map, decimal}
use Rattle.pmf_event.specs.{declared.event.Event.{Event}, declared.finding.Finding.{Finding}, declared.finding.Finding.TheVariants.{PersistFail, OrderedFail, CheckFail}, declared.profile.Profile.{Profile}, declared.row.Row.{Row}, Address.{address}, Line.{line_of_byte}, Section.{Trace}, Store.{last_store}}
use Rattle.pmf_image.specs.{declared.certificate.Certificate.{Certificate}, Certificate.{cut_in, shows_in}}
use Rattle.pmf_storelog.specs.{LogText.{log_of}, LogValue.{LogValue}}
use Rattle.pmf_verdict.specs.{Explained.{Explains}, Rows.{rows_of}, Text.{text_of_rows, rows_at}}
use Rattle.pmf_query.specs.Refusals.{IsPlace, IsSection}

-- the bytes that a failed row names; other rows have no image
abbrev pub bytes_of : Finding → List ℕ
bytes_of (PersistFail byte) = byte ∷ []
bytes_of (OrderedFail byte after crash) = byte ∷ after ∷ []
bytes_of (CheckFail byte) = byte ∷ []
bytes_of _ = []

-- `byte=X cut=C shows=S last=L`: how many stores of the byte's line the image holds, the store that the byte
-- shows in it, and its last store at p
unfoldable pub text_of_byte : List Event → Certificate → ℕ → ℕ → List ℕ
text_of_byte es c p byte =
    codes "byte=" ++ address byte ++ codes " cut=" ++ decimal (cut_in es c (line_of_byte byte))
    ++ codes " shows=" ++ decimal (shows_in es c byte) ++ codes " last=" ++ decimal (last_store es p byte) ++ codes "\n"

-- the text lines of the bytes that a row names
unfoldable pub text_of_bytes : List Event → Certificate → ℕ → Row → List ℕ
text_of_bytes es c p row = flat_map (text_of_byte es c p) (bytes_of row.finding)

-- the address of a full line, or `none`, and the end of the text line
unfoldable pub text_of_line : Option ℕ → List ℕ
text_of_line None = codes "none\n"
text_of_line (Some line) = address line ++ codes "\n"

-- `image crash=N full=X`
unfoldable pub text_of_image : Certificate → List ℕ
text_of_image c = codes "image crash=" ++ decimal c.crash ++ codes " full=" ++ text_of_line c.full_line

-- the image of a certificate: its text line, and one for each byte that a row at p names
unfoldable pub text_of_certificate : List Event → List Row → ℕ → Certificate → List ℕ
text_of_certificate es rows p c = text_of_image c ++ flat_map (text_of_bytes es c p) (rows_at rows p)

-- the same, or `no image`
abbrev pub text_of_image_if_any : List Event → List Row → ℕ → Option Certificate → List ℕ
text_of_image_if_any es rows p None = codes "no image\n"
text_of_image_if_any es rows p (Some c) = text_of_certificate es rows p c

-- the text explains place p of a section with these events and rows: the rows there, and the image that they
-- give
abbrev pub ExplainsPlace : List Event → List Row → ℕ → List ℕ → Type 0
ExplainsPlace es rows p text =
    (o : Option Certificate) × Explains rows p o × (text ≡ text_of_rows (rows_at rows p) ++ text_of_image_if_any es rows p o)

-- the bytes are a log of the run, without a fault, with this section and this event in it, and the text explains
-- the event by the profile
abbrev pub IsExplanation : ℕ → ℕ → ℕ → Profile → List ℕ → List ℕ → Type 0
IsExplanation run section event profile bytes text =
    (log : LogValue) × (t : Trace) × (log_of run bytes ≡ Ok log) × IsSection section log t × IsPlace event t
    × ExplainsPlace t.events (rows_of profile t.events) event text
