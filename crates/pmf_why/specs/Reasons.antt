-- Which rows are told, and which are alike. Defined here.
use Rattle.std.specs.{Prelude.{ℕ, zero, suc, ◌-◌, Bool, true, not, ◌&&◌, ◌==◌, List, [], ◌∷◌, length, take, filter, flat_map, count_by, sum_by, slice_get, slice_index_or, Option, None, Some, if◌then◌else◌, bytes_eq}}
use Rattle.pmf_event.specs.{declared.event.Event.{Event}, declared.finding.Finding.{Finding}, declared.row.Row.{Row}, Store.{event_at}}
use Rattle.pmf_event.specs.declared.event.Event.TheVariants as event
use Rattle.pmf_event.specs.declared.finding.Finding.TheVariants as finding
use Rattle.pmf_request.specs.declared.settings.Reasons.{Reasons}
use Rattle.pmf_storelog.specs.Records.{fields_of}
use Rattle.pmf_verdict.specs.{declared.outcome.Outcome.TheVariants.{Pass}, Outcome.{is_same, outcome_of}, Checked.{Checked, rows_in}}
use Rattle.pmf_cause.specs.{declared.edit.Edit.{Edit}, declared.lack.Lack.{Lack}, declared.cause.Cause.{Cause}, Cause.{cause_of}}
use Rattle.pmf_cause.specs.declared.lack.Lack.TheVariants as lack
use Rattle.pmf_cause.specs.declared.cause.Cause.TheVariants as cause
use Rattle.pmf_query.specs.declared.locate.Located.{Located}

-- a section as it is told of: what was checked, where its events stand in the log, and the changes that are to cure all its rows
pub record Part : Type 0 where
  pub checked : Checked
  pub stands : List Located
  pub plan : List Edit

-- a row that counts as fail or as a warning, with its cause
pub record Bad : Type 0 where
  pub part : Part
  pub row : Row
  pub cause : Cause

-- the events of its section
abbrev pub events_of : Bad → List Event
events_of bad = bad.part.checked.section.events

-- ---- which rows are asked for

-- whether the row counts as pass
unfoldable pub passes : Row → Bool
passes row = is_same Pass (outcome_of row.finding)

-- whether a number is asked for: each is, where none is named
abbrev pub is_asked : Option ℕ → ℕ → Bool
is_asked None n = true
is_asked (Some named) n = n == named

-- the row with its cause, where it has one
abbrev pub with_cause : Part → Row → Option Cause → List Bad
with_cause part row None = []
with_cause part row (Some cause) = record { part = part; row = row; cause = cause } ∷ []

-- the row, where its event is asked for and it has a cause
unfoldable pub asked_row : Reasons → Part → Row → List Bad
asked_row asked part row = if is_asked asked.event row.place then with_cause part row (cause_of part.checked.section.events row) else []

-- the rows of a section that are asked for
unfoldable pub asked_rows : Reasons → Part → List Bad
asked_rows asked part = flat_map (asked_row asked part) (rows_in part.checked)

-- those of all sections
abbrev pub rows_of_all : Reasons → List Part → List Bad
rows_of_all asked parts = flat_map (asked_rows asked) parts

-- ---- which are alike

-- the kind of what is found, as a number
unfoldable pub finding_number : Finding → ℕ
finding_number (finding.PersistFail byte) = 1
finding_number (finding.OrderedFail byte after crash) = 2
finding_number (finding.OrderedSameLine byte after) = 3
finding_number (finding.FlushDoubled line lines) = 4
finding_number (finding.FlushNeedless line lines) = 5
finding_number (finding.NoBackup byte) = 6
finding_number (finding.DupLog byte) = 7
finding_number (finding.CheckFail byte) = 8
finding_number (finding.TxStillOpen depth) = 9
finding_number finding.Unmatched = 10
finding_number finding.Outside = 11
finding_number finding.Nested = 12
finding_number finding.Unopened = 13
finding_number (finding.Unclosed start) = 14
finding_number _ = 0

-- the kind of what is lacking
unfoldable pub lack_number : Lack → ℕ
lack_number lack.StoredBehind = 1
lack_number lack.OneStore = 2
lack_number lack.NotWrittenBack = 3
lack_number (lack.WrittenBackLate by) = 4
lack_number (lack.NotFenced by) = 5
lack_number (lack.FencedLate by fence) = 6

-- the kind of a cause: a line that was written back before differs from one with nothing to write back
unfoldable pub cause_number : Cause → ℕ
cause_number (cause.NotDurable need lack) = lack_number lack
cause_number (cause.WrittenBackBefore by) = if by == 0 then 8 else 7
cause_number (cause.BackedUpBefore by) = 9
cause_number (cause.NotBackedUp begin) = 10
cause_number (cause.TransactionRuns begin) = 11
cause_number (cause.NoTransaction ended) = 12
cause_number (cause.ScopeOpen start) = 13
cause_number (cause.NoScope ended) = 14

-- the place of the lost store, or of the event that is no PASS
unfoldable pub place_told : Row → Cause → ℕ
place_told row (cause.NotDurable need lack) = need.last
place_told row _ = row.place

-- how many events a store stands in front of the place by which it had to be durable
unfoldable pub distance_of : Cause → ℕ
distance_of (cause.NotDurable need lack) = need.due - need.last
distance_of _ = 0

-- how many fields of its record an event is read from, the name being one
unfoldable pub fields_read : Event → ℕ
fields_read (event.Store s) = 4
fields_read (event.Flush s) = 3
fields_read (event.Persist s) = 3
fields_read (event.Ordered s t) = 5
fields_read (event.Exclude s) = 3
fields_read (event.Include s) = 3
fields_read (event.TxAdd s) = 3
fields_read _ = 1

-- where the event at a place stands in the log; nothing at place 0, and behind the last event
unfoldable pub stands_at : List Located → ℕ → Option Located
stands_at stands zero = None
stands_at stands (suc k) = slice_get stands k

-- the first field of a record behind those that its event is read from, which tells where in the source it was made; empty, where
-- there is none
unfoldable pub frame_behind : Option Event → Option Located → List ℕ
frame_behind (Some e) (Some l) = slice_index_or (fields_of l.text.now) (fields_read e) []
frame_behind (Some e) None = []
frame_behind None l = []

-- the place in the source of what is told
unfoldable pub frame_of : Bad → List ℕ
frame_of bad =
    let place = place_told bad.row bad.cause in frame_behind (event_at (events_of bad) place) (stands_at bad.part.stands place)

-- the distance counts where no place in the source is known
unfoldable pub distance_told : Bad → ℕ
distance_told bad = if length (frame_of bad) == 0 then distance_of bad.cause else 0

-- whether two rows have one kind: what is found, its cause, and the place in the source, or the distance
unfoldable pub have_one_kind : Bad → Bad → Bool
have_one_kind a b =
    (finding_number a.row.finding == finding_number b.row.finding) && (cause_number a.cause == cause_number b.cause)
    && (distance_told a == distance_told b) && bytes_eq (frame_of a) (frame_of b)

-- whether one of two rows stands for both: where each row is asked for, none does
unfoldable pub are_alike : Reasons → Bad → Bad → Bool
are_alike asked a b = not asked.all && have_one_kind a b

-- ---- which are told

-- the rows without those that are alike to one before
unfoldable pub firsts : (Bad → Bad → Bool) → List Bad → List Bad
firsts alike [] = []
firsts alike (x ∷ xs) = x ∷ filter (λ y. not (alike x y)) (firsts alike xs)

-- the rows that are told: the first of each kind, or each row, up to so many
unfoldable pub told_of : Reasons → List Bad → List Bad
told_of asked rows = take asked.first (firsts (are_alike asked) rows)

-- how many of the rows a row stands for: those of its kind, or itself
unfoldable pub told_by : Reasons → List Bad → Bad → ℕ
told_by asked rows bad = if asked.all then 1 else count_by (have_one_kind bad) rows

-- how many of the rows none that is told stands for
unfoldable pub untold_of : Reasons → List Bad → ℕ
untold_of asked rows = length rows - sum_by (told_by asked rows) (told_of asked rows)
