-- What is asked of images for the rows of a section, and the text of what they show. No public clause cites this.
use Rattle.std.specs.Prelude.{ℕ, List, [], ◌++◌, codes, decimal, map, Option, None, Some, if◌then◌else◌}
use Rattle.pmf_event.specs.{declared.event.Event.{Event}, declared.name.Name.{Name}, declared.row.Row.{Row}, Address.{address}}
use Rattle.pmf_image.specs.declared.certificate.Certificate.{Certificate}
use Rattle.pmf_images.specs.declared.showing.{Asked.{Asked}, Shown.{Shown}}
use Rattle.pmf_verdict.specs.Explained.{certificate_of}
use Rattle.pmf_query.specs.{AllExplained.{fails, text_of_failed}, Explanation.{bytes_of}}

-- of one byte, in the image of a certificate and at a place
abbrev pub asked_byte : Certificate → ℕ → ℕ → Asked
asked_byte c p byte = record { certificate = c; place = p; byte = byte }

-- of each byte that a row names, in the image of its certificate, if it has one
abbrev pub asked_if : Option Certificate → Row → List Asked
asked_if None row = []
asked_if (Some c) row = map (asked_byte c row.place) (bytes_of row.finding)

abbrev pub asked_of : Row → List Asked
asked_of row = asked_if (certificate_of row.place row.finding) row

-- `byte=X cut=C shows=S last=L`
unfoldable pub text_of_shown : ℕ → Shown → List ℕ
text_of_shown byte shown =
    codes "byte=" ++ address byte ++ codes " cut=" ++ decimal shown.cut ++ codes " shows=" ++ decimal shown.shows ++ codes " last=" ++ decimal shown.last ++ codes "\n"

-- the text of a row that counts as fail; nothing of any other
unfoldable pub text_if_failed : Name → List Event → Row → List ℕ
text_if_failed name es row = if fails row then text_of_failed (record { section = record { name = name; events = es }; row = row }) else []
