-- What the text of an explanation tells, as a report is read. A law, which an empty public function proves.
use Rattle.std.specs.Prelude.{◌≡◌, ℕ, List, All}
use Rattle.pmf_event.specs.{declared.event.Event.{Event}, declared.row.Row.{Row}}
use Rattle.pmf_verdict.specs.Text.{rows_at}
use Rattle.pmf_ledger.specs.{Loading.{lines_of}, ReportTold.{FitsRow, rows_told}}
use Rattle.pmf_query.specs.Explanation.{ExplainsPlace}

-- the text lines of an explanation tell the rows at its place, and no other
abbrev pub ExplanationsTellTheirRows : Type 0
ExplanationsTellTheirRows = (es : List Event) (rows : List Row) (p : ℕ) (text : List ℕ) → All FitsRow (rows_at rows p) → ExplainsPlace es rows p text → rows_told (lines_of text) ≡ rows_at rows p
