-- The text lines of an explanation: those of its rows, and then those of its image, of which the first is no row.
use Rattle.std.{proofs.Common.{◌≡◌, ℕ, List, [], ◌∷◌, ◌++◌, flat_map, map, codes, decimal, Option, Some, None, refl, sym, ◌∙◌, ap, append_assoc, arith}, specs.List.{AllByRecursion}, proofs.lemmas.List.Elements.{recursion_from_All}, proofs.lemmas.Grind.{common_steps}}
use Rattle.pmf_event.specs.{declared.event.Event.{Event}, declared.row.Row.{Row}, Address.{address}, Line.{line_of_byte}, Store.{last_store}}
use Rattle.pmf_image.specs.{declared.certificate.Certificate.{Certificate}, Certificate.{cut_in, shows_in}}
use Rattle.pmf_storelog.{specs.Numbers.{is_numeral, numeral_of, number_in_front}, proofs.PlainRecordLemmas.{text_of_lines}}
use Rattle.pmf_verdict.specs.Text.{rows_at}
use Rattle.pmf_ledger.{specs.Loading.{lines_of}, specs.ReportTold.{row_told, rows_told}, proofs.lemmas.SpelledLemmas.{OneLine, one-append, decimal-one, address-one, text_without_end, lines_of-lines, lines-append, each-append}, proofs.lemmas.LedgerTextLemmas.{row_lines, rows-one}, proofs.lemmas.ReportToldLemmas.{rows-front}}
use Rattle.pmf_query.specs.Explanation.{bytes_of, text_of_byte, text_of_bytes, text_of_line, text_of_image, text_of_certificate, text_of_image_if_any}
use Rattle.pmf_command.specs.ExplanationTold.{ExplanationsTellTheirRows}

-- the text lines of bytes
byte_line : List Event → Certificate → ℕ → ℕ → List ℕ
byte_line es c p byte = codes "byte=" ++ address byte ++ codes " cut=" ++ decimal (cut_in es c (line_of_byte byte)) ++ codes " shows=" ++ decimal (shows_in es c byte) ++ codes " last=" ++ decimal (last_store es p byte)

byte-text : (es : List Event) (c : Certificate) (p byte : ℕ) → text_of_byte es c p byte ≡ byte_line es c p byte ++ codes "\n"
unfolding text_of_byte byte_line
byte-text es c p byte = grind (arith, common_steps, append_assoc)

byte-one : (es : List Event) (c : Certificate) (p byte : ℕ) → OneLine (byte_line es c p byte)
unfolding byte_line
byte-one es c p byte = grind (arith, common_steps, one-append, address-one, decimal-one)

bytes-text : (es : List Event) (c : Certificate) (p : ℕ) (bytes : List ℕ) → flat_map (text_of_byte es c p) bytes ≡ text_of_lines (map (byte_line es c p) bytes)
bytes-text es c p [] = refl
bytes-text es c p (byte ∷ bytes) = grind (arith, common_steps, byte-text, bytes-text es c p bytes)

bytes-one : (es : List Event) (c : Certificate) (p : ℕ) (bytes : List ℕ) → AllByRecursion OneLine (map (byte_line es c p) bytes)
bytes-one es c p [] = tt
bytes-one es c p (byte ∷ bytes) = (byte-one es c p byte, bytes-one es c p bytes)

rows_lines : List Event → Certificate → ℕ → List Row → List (List ℕ)
rows_lines es c p rows = flat_map (λ row. map (byte_line es c p) (bytes_of row.finding)) rows

rows-text : (es : List Event) (c : Certificate) (p : ℕ) (rows : List Row) → flat_map (text_of_bytes es c p) rows ≡ text_of_lines (rows_lines es c p rows)
unfolding text_of_bytes rows_lines
rows-text es c p [] = refl
rows-text es c p (row ∷ rows) = grind (arith, common_steps, lines-append, bytes-text es c p (bytes_of row.finding), rows-text es c p rows)

rows-of_one : (es : List Event) (c : Certificate) (p : ℕ) (rows : List Row) → AllByRecursion OneLine (rows_lines es c p rows)
unfolding rows_lines
rows-of_one es c p [] = tt
rows-of_one es c p (row ∷ rows) = each-append _ _ (bytes-one es c p (bytes_of row.finding)) (rows-of_one es c p rows)

-- the image's text lines: a first one, which is no row, and more
record Lines (text : List ℕ) : Type 0 where
  first : List ℕ
  more : List (List ℕ)
  is : text ≡ text_of_lines (first ∷ more)
  one : AllByRecursion OneLine (first ∷ more)
  no_row : row_told first ≡ None

full_word : Option ℕ → List ℕ
full_word None = codes "none"
full_word (Some line) = address line

full-text : (o : Option ℕ) → text_of_line o ≡ full_word o ++ codes "\n"
unfolding text_of_line full_word
full-text None = refl
full-text (Some line) = refl

full-one : (o : Option ℕ) → OneLine (full_word o)
unfolding full_word
full-one None = grind (arith, common_steps)
full-one (Some line) = address-one line

no_image-row : row_told (codes "no image") ≡ None
unfolding row_told number_in_front numeral_of is_numeral
no_image-row = refl

image-row : (crash : List ℕ) (full : List ℕ) → row_told (codes "image crash=" ++ crash ++ codes " full=" ++ full) ≡ None
unfolding row_told number_in_front numeral_of is_numeral
image-row crash full = refl

image-lines : (es : List Event) (rows : List Row) (p : ℕ) (o : Option Certificate) → Lines (text_of_image_if_any es rows p o)
unfolding text_of_certificate text_of_image
image-lines es rows p None = record { first = codes "no image"; more = []; is = refl; one = grind (arith, common_steps); no_row = no_image-row }
image-lines es rows p (Some c) =
    let line = codes "image crash=" ++ decimal c.crash ++ codes " full=" ++ full_word c.full_line in record {
      first = line;
      more = rows_lines es c p (rows_at rows p);
      is = grind (arith, common_steps, append_assoc, full-text c.full_line, rows-text es c p (rows_at rows p));
      one = (grind (arith, common_steps, one-append, decimal-one, full-one c.full_line), rows-of_one es c p (rows_at rows p));
      no_row = image-row (decimal c.crash) (full_word c.full_line);
    }

pub explanations_tell : ExplanationsTellTheirRows
explanations_tell es rows p text fit (o, explains, is) =
    let found = rows_at rows p in
    let image = image-lines es rows p o in
    let lines = map text_without_end found ++ image.first ∷ image.more in
    let all : text ≡ text_of_lines lines = is ∙ ap (λ front. front ++ text_of_image_if_any es rows p o) (row_lines found) ∙ ap (λ rest. text_of_lines (map text_without_end found) ++ rest) image.is ∙ sym (lines-append (map text_without_end found) (image.first ∷ image.more)) in
    ap (λ t. rows_told (lines_of t)) all
    ∙ ap rows_told (lines_of-lines lines (each-append (map text_without_end found) (image.first ∷ image.more) (rows-one found) image.one))
    ∙ rows-front found image.first image.more (recursion_from_All _ found fit) image.no_row
