-- The text that tells why rows are no PASS, and what cures them: ASCII, in text lines. Defined here.
use Rattle.std.specs.{Prelude.{ℕ, ◌-◌, ◌==◌, nat_le, List, [], ◌++◌, flat_map, codes, Option, None, Some, if◌then◌else◌}, Fmt.{decimal}}
use Rattle.pmf_event.specs.{declared.finding.Finding.{Finding}, declared.finding.Finding.TheVariants.{OrderedFail, OrderedSameLine}, declared.name.Name.{Name}, declared.row.Row.{Row}}
use Rattle.pmf_storelog.specs.Canonical.{line_of_event}
use Rattle.pmf_verdict.specs.Text.{text_of_row}
use Rattle.pmf_cause.specs.{declared.{edit.Edit.{Edit}, lack.Lack.{Lack}, need.Need.{Need}, cause.Cause.{Cause}}, Later.{asks_byte}}
use Rattle.pmf_cause.specs.declared.edit.Edit.TheVariants as edit
use Rattle.pmf_cause.specs.declared.lack.Lack.TheVariants as lack
use Rattle.pmf_cause.specs.declared.cause.Cause.TheVariants as cause
use Rattle.pmf_query.specs.{declared.locate.Located.{Located}, Ascii.{shown_text}}
use Rattle.pmf_why.specs.{declared.cure.Way.{Way}, declared.cure.Way.TheVariants.{NotFound, Alone, WithAll}, declared.telling.TheConstants.{SHOWN}, Reasons.{Bad, stands_at}}

-- ---- records

-- the number of a record, or 0
abbrev pub number_in : Option Located → ℕ
number_in None = 0
number_in (Some l) = l.record

-- the number of the record that gave the event at a place, or 0
abbrev pub record_at : List Located → ℕ → ℕ
record_at stands place = number_in (stands_at stands place)

-- `record N`, and the first bytes of the record, in ASCII; or that it is the section's end
unfoldable pub text_of_record : Option Located → List ℕ
text_of_record None = codes "the section's end\n"
text_of_record (Some l) = codes "record " ++ decimal l.record ++ codes " " ++ shown_text SHOWN l.text.now ++ codes "\n"

-- ---- the cause

-- words, the number of the record that gave the event at a place, and more words
unfoldable pub text_with : List Located → List ℕ → ℕ → List ℕ → List ℕ
text_with stands front place behind = front ++ decimal (record_at stands place) ++ behind

-- a fence that comes too late for a record
unfoldable pub text_of_late_fence : List Located → ℕ → ℕ → List ℕ
text_of_late_fence stands due fence = text_with stands (codes ", no fence before record ") due (codes "; too late by record ") ++ text_with stands [] fence []

-- what a byte lacks that had to be durable by a record
unfoldable pub text_of_lack : List Located → ℕ → Lack → List ℕ
text_of_lack stands due lack.StoredBehind = text_with stands (codes "stored behind record ") due (codes ", in front of which it had to be durable")
text_of_lack stands due lack.OneStore = codes "one store writes both bytes, so that no write-back comes between"
text_of_lack stands due lack.NotWrittenBack = codes "not written back: no write-back of its line behind the store"
text_of_lack stands due (lack.WrittenBackLate by) =
    text_with stands (codes "not written back before record ") due (codes ": too late by record ") ++ text_with stands [] by []
text_of_lack stands due (lack.NotFenced by) = text_with stands (codes "not fenced: written back by record ") by (codes ", and no fence follows")
text_of_lack stands due (lack.FencedLate by fence) =
    text_with stands (codes "not fenced: written back by record ") by [] ++ text_of_late_fence stands due fence

-- the record that gave an event, in words; or other words, where there is none
unfoldable pub text_of_last : List Located → List ℕ → List ℕ → ℕ → List ℕ
text_of_last stands none some place = if place == 0 then none else text_with stands some place []

-- a cause, in words
unfoldable pub text_of_cause : List Located → Cause → List ℕ
text_of_cause stands (cause.NotDurable need lack) = text_of_lack stands need.due lack
text_of_cause stands (cause.WrittenBackBefore by) =
    text_of_last stands (codes "nothing to write back: the line was neither stored to nor written back before") (codes "written back already, by record ") by
text_of_cause stands (cause.BackedUpBefore by) = text_with stands (codes "backed up already, by record ") by []
text_of_cause stands (cause.NotBackedUp begin) = text_with stands (codes "not backed up in the transaction that record ") begin (codes " began")
text_of_cause stands (cause.TransactionRuns begin) = text_with stands (codes "the transaction that record ") begin (codes " began has not ended")
text_of_cause stands (cause.NoTransaction ended) = text_of_last stands (codes "no transaction has begun") (codes "no transaction runs: the last one ended by record ") ended
text_of_cause stands (cause.ScopeOpen start) = text_with stands (codes "the scope that record ") start (codes " opened is still open")
text_of_cause stands (cause.NoScope ended) = text_of_last stands (codes "no scope has been opened") (codes "no scope is open: the last one was closed by record ") ended

-- ---- the cure

-- where a change puts an event: in front of a record, or at the section's end
unfoldable pub text_of_place : Option Located → List ℕ
text_of_place None = codes "at the end: "
text_of_place (Some l) = codes "before record " ++ decimal l.record ++ codes ": "

-- one change
unfoldable pub text_of_edit : List Located → Edit → List ℕ
text_of_edit stands (edit.Put before event) = text_of_place (stands_at stands before) ++ line_of_event event
text_of_edit stands (edit.LeaveOut place) = text_with stands (codes "leave out record ") place (codes "\n")

-- some changes, each a text line, in front of one line more
unfoldable pub text_of_edits : List Located → List Edit → List ℕ
text_of_edits stands edits = flat_map (λ e. text_of_edit stands e ++ codes "           ") edits

-- what is told behind the changes: a row of an assertion whose bytes were not durable passes, another is gone; or that there are none
abbrev pub text_of_cured : Finding → Way → List ℕ
text_of_cured finding NotFound = codes "none found\n"
text_of_cured finding Alone = if asks_byte finding then codes "this row then passes\n" else codes "this row is then gone\n"
text_of_cured finding WithAll = if asks_byte finding then codes "with all cures this row passes\n" else codes "with all cures this row is gone\n"

-- what is told as a cure of a row with this finding
unfoldable pub text_of_cure : List Located → Finding → List Edit → Way → List ℕ
text_of_cure stands finding edits NotFound = text_of_cured finding NotFound
text_of_cure stands finding edits way = text_of_edits stands edits ++ text_of_cured finding way

-- ---- a row

-- the record of the store that is kept, where an order is asserted
unfoldable pub text_of_kept : List Located → Finding → Need → List ℕ
text_of_kept stands (OrderedFail byte after crash) need = codes "  kept     " ++ text_of_record (stands_at stands need.due)
text_of_kept stands (OrderedSameLine byte after) need = codes "  kept     " ++ text_of_record (stands_at stands need.due)
text_of_kept stands _ need = []

-- the record of the lost store, and that of the store that is kept where an order is asserted; or the record of the event
unfoldable pub text_of_records : List Located → Row → Cause → List ℕ
text_of_records stands row (cause.NotDurable need lack) = codes "  lost     " ++ text_of_record (stands_at stands need.last) ++ text_of_kept stands row.finding need
text_of_records stands row _ = codes "  event    " ++ text_of_record (stands_at stands row.place)

-- `R.N `
unfoldable pub text_of_section : Name → List ℕ
text_of_section name = decimal name.run ++ codes "." ++ decimal name.number ++ codes " "

-- a row, with its records, its cause, and what is told as a cure
unfoldable pub text_of_reason : Bad → List Edit → Way → List ℕ
text_of_reason bad edits way =
    text_of_section bad.part.checked.section.name ++ text_of_row bad.row
    ++ text_of_records bad.part.stands bad.row bad.cause
    ++ codes "  cause    " ++ text_of_cause bad.part.stands bad.cause ++ codes "\n"
    ++ codes "  cure     " ++ text_of_cure bad.part.stands bad.row.finding edits way

-- how many rows more are like a row that is told, where there are more
unfoldable pub text_of_more : Name → Row → ℕ → List ℕ
text_of_more name row count = if nat_le count 1 then [] else decimal (count - 1) ++ codes " more like " ++ text_of_section name ++ text_of_row row
