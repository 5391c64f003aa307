-- The text of a row: its place, its word, and the addresses and numbers that belong to it. ASCII, each
-- row one text line that ends with LF. Defined here.
use Rattle.std.specs.Prelude.{ℕ, ◌==◌, Bool, List, ◌++◌, filter, codes, flat_map, decimal}
use Rattle.pmf_event.specs.{declared.finding.Finding.{Finding}, declared.finding.Finding.TheVariants.{PersistPass, PersistFail, PersistEmpty, OrderedPass, OrderedFail, OrderedSameLine, OrderedEmpty, FlushDoubled, FlushNeedless, NoBackup, DupLog, CheckPass, CheckFail, TxStillOpen, Unmatched, Outside, Nested, Unopened, Unclosed}, declared.row.Row.{Row}, Address.{address}}

-- the two bytes of a pair
unfoldable pub text_of_pair : ℕ → ℕ → List ℕ
text_of_pair byte after = codes " byte=" ++ address byte ++ codes " after=" ++ address after

-- what stands after the place k
unfoldable pub text_of_finding : ℕ → Finding → List ℕ
text_of_finding k PersistPass = codes " PERSIST PASS"
text_of_finding k (PersistFail byte) = codes " PERSIST FAIL byte=" ++ address byte ++ codes " crash=" ++ decimal k
text_of_finding k PersistEmpty = codes " PERSIST EMPTY"
text_of_finding k OrderedPass = codes " ORDERED PASS"
text_of_finding k (OrderedFail byte after crash) = codes " ORDERED FAIL" ++ text_of_pair byte after ++ codes " crash=" ++ decimal crash
text_of_finding k (OrderedSameLine byte after) = codes " ORDERED SAMELINE" ++ text_of_pair byte after
text_of_finding k OrderedEmpty = codes " ORDERED EMPTY"
text_of_finding k (FlushDoubled line lines) = codes " FLUSH DOUBLED line=" ++ address line ++ codes " lines=" ++ decimal lines
text_of_finding k (FlushNeedless line lines) = codes " FLUSH NEEDLESS line=" ++ address line ++ codes " lines=" ++ decimal lines
text_of_finding k (NoBackup byte) = codes " STORE NOBACKUP byte=" ++ address byte
text_of_finding k (DupLog byte) = codes " TXADD DUPLOG byte=" ++ address byte
text_of_finding k CheckPass = codes " CHECKEND PASS"
text_of_finding k (CheckFail byte) = codes " CHECKEND FAIL byte=" ++ address byte ++ codes " crash=" ++ decimal k
text_of_finding k (TxStillOpen depth) = codes " CHECKEND TXOPEN depth=" ++ decimal depth
text_of_finding k Unmatched = codes " TXEND UNMATCHED"
text_of_finding k Outside = codes " TXADD OUTSIDE"
text_of_finding k Nested = codes " CHECKSTART NESTED"
text_of_finding k Unopened = codes " CHECKEND UNOPENED"
text_of_finding k (Unclosed start) = codes " SECTION UNCLOSED start=" ++ decimal start

-- the text line of a row
abbrev pub text_of_row : Row → List ℕ
text_of_row row = decimal row.place ++ text_of_finding row.place row.finding ++ codes "\n"

-- the text lines of some rows, one after another
abbrev pub text_of_rows : List Row → List ℕ
text_of_rows rows = flat_map text_of_row rows

-- whether the row stands at p
unfoldable pub stands_at : ℕ → Row → Bool
stands_at p row = row.place == p

-- the rows at p, in their order
abbrev pub rows_at : List Row → ℕ → List Row
rows_at rows p = filter (stands_at p) rows
