-- What a text says that is loaded as a ledger: it is read from the top, text line by text line, and the first fault
-- decides. Defined here.
use Rattle.std.specs.{Prelude.{◌≡◌, ◌≢◌, ⊤, ℕ, zero, suc, ◌-◌, ◌≤◌, Bool, nat_lt, nat_eq, ◌==◌, List, [], ◌∷◌, ◌++◌, length, take, drop, slice_index_or, Option, Some, None, Result, Ok, Err, IsOk, if◌then◌else◌, codes, Contains, bytes_eq}, List.{slice_split, starts_with}}
use Rattle.pmf_event.specs.{declared.event.Event.{Event}, declared.name.Name.{Name}, declared.profile.Profile.{Profile}, declared.profile.Profile.TheVariants.{One, Two}, declared.row.Row.{Row}, declared.section.TheConstants.{EVENT_LIMIT}, Section.{Trace}}
use Rattle.pmf_storelog.specs.{declared.fault.Cause.TheVariants.{TooManyEvents}, declared.line.LineFault.{LineFault}, declared.line.LineFault.TheVariants.{NoEvent, Refused}, Lines.{event_of_line}, LogText.{out_of_memory}, Numbers.{number_in_front}}
use Rattle.pmf_verdict.specs.{Rows.{rows_of}, Text.{text_of_row}}
use Rattle.pmf_ledger.specs.{declared.head.Head.{Head}, declared.loading.LedgerFault.{LedgerFault}, declared.loading.LedgerFault.TheVariants.{NotALedger, FalseRows, Conflict, Log, OutOfMemory}, declared.loading.TheConstants.{LEDGER_LIMIT}, Gathered.{IsLedgerOf}, Gathering.{Agrees}, LedgerText.{version_of}, LedgerValue.{LedgerValue}}

-- the profile that the first text line tells
unfoldable pub profile_of : List ℕ → Option Profile
profile_of text = if bytes_eq text (version_of One) then Some One else if bytes_eq text (version_of Two) then Some Two else None

-- the number behind this word, and the text behind the number, where the text begins with both
unfoldable pub number_behind : List ℕ → List ℕ → Option (ℕ × List ℕ)
number_behind word text = if starts_with nat_eq text word then number_in_front (drop (length word) text) else None

-- the number, where nothing follows it
abbrev pub alone : Option (ℕ × List ℕ) → Option ℕ
alone None = None
alone (Some found) = if length found.1 == 0 then Some found.0 else None

-- `section R.N events=E rows=M`, read from behind its last number, its third, its second and its first
abbrev pub head_of_rows : Name → ℕ → Option ℕ → Option Head
head_of_rows name events None = None
head_of_rows name events (Some rows) = Some (record { name = name; events = events; rows = rows })

abbrev pub head_of_events : Name → Option (ℕ × List ℕ) → Option Head
head_of_events name None = None
head_of_events name (Some events) = head_of_rows name events.0 (alone (number_behind (codes " rows=") events.1))

abbrev pub head_of_number : ℕ → Option (ℕ × List ℕ) → Option Head
head_of_number run None = None
head_of_number run (Some number) = head_of_events (record { run = run; number = number.0 }) (number_behind (codes " events=") number.1)

abbrev pub head_of_run : Option (ℕ × List ℕ) → Option Head
head_of_run None = None
head_of_run (Some run) = head_of_number run.0 (number_behind (codes ".") run.1)

-- what the head of a block tells, where the text line is one
unfoldable pub head_of : List ℕ → Option Head
head_of text = head_of_run (number_behind (codes "section ") text)

-- the number of blocks that the last text line tells, where the text line is one
unfoldable pub end_of : List ℕ → Option ℕ
end_of text = alone (number_behind (codes "end verdicts=") text)

-- what comes next in the text: the version; a block or the end; so many more events of a section, which is told to
-- have so many rows; these rows of a section; nothing more; or whatever, since it is refused
pub data Stage : Type 0 where
  AtVersion : Stage
  AtBlock : Stage
  AtEvents : Trace → ℕ → ℕ → Stage
  AtRows : Trace → List Row → Stage
  AtEnd : Stage
  AtFault : LedgerFault → Stage

-- a text as far as it was read: its profile, the sections of its blocks, and what comes next
pub record Reading : Type 0 where
  pub profile : Profile
  pub blocks : List Trace
  pub stage : Stage

-- nothing was read
abbrev pub unread : Reading
unread = record { profile = One; blocks = []; stage = AtVersion }

-- the same with another stage
abbrev pub at : Reading → Stage → Reading
at r stage = record { profile = r.profile; blocks = r.blocks; stage = stage }

-- the section's rows have been read but for these: without any it is a block
unfoldable pub with_rows : Reading → Trace → List Row → Reading
with_rows r section [] = record { profile = r.profile; blocks = r.blocks ++ section ∷ []; stage = AtBlock }
with_rows r section (row ∷ rows) = at r (AtRows section (row ∷ rows))

-- all events of the section were read: it is checked, and has as many rows as it is told to have
unfoldable pub with_section : Reading → Trace → ℕ → Reading
with_section r section told =
    let rows = rows_of r.profile section.events in
    if length rows == told then with_rows r section rows else at r (AtFault (FalseRows section.name))

-- so many events of the section are still to be read
unfoldable pub with_events : Reading → Trace → ℕ → ℕ → Reading
with_events r section zero told = with_section r section told
with_events r section (suc more) told = at r (AtEvents section (suc more) told)

-- the reading after the text line of number n, at each stage
abbrev pub after_version : Reading → ℕ → Option Profile → Reading
after_version r n None = at r (AtFault (NotALedger n))
after_version r n (Some profile) = record { profile = profile; blocks = r.blocks; stage = AtBlock }

abbrev pub after_end : Reading → ℕ → Option ℕ → Reading
after_end r n None = at r (AtFault (NotALedger n))
after_end r n (Some blocks) = at r (if blocks == length r.blocks then AtEnd else AtFault (NotALedger n))

abbrev pub after_head : Reading → ℕ → List ℕ → Option Head → Reading
after_head r n text None = after_end r n (end_of text)
after_head r n text (Some head) = with_events r (record { name = head.name; events = [] }) head.events head.rows

abbrev pub fault_at : ℕ → LineFault → LedgerFault
fault_at n NoEvent = NotALedger n
fault_at n (Refused cause) = Log (record { at = n; cause = cause })

abbrev pub after_event : Reading → ℕ → Trace → ℕ → ℕ → Result Event LineFault → Reading
after_event r n section more told (Ok event) =
    if length section.events == EVENT_LIMIT then at r (AtFault (Log (record { at = n; cause = TooManyEvents })))
    else with_events r (record { name = section.name; events = section.events ++ event ∷ [] }) (more - 1) told
after_event r n section more told (Err refusal) = at r (AtFault (fault_at n refusal))

unfoldable pub after_row : Reading → ℕ → List ℕ → Trace → List Row → Reading
after_row r n text section [] = at r (AtFault (NotALedger n))
after_row r n text section (row ∷ rows) =
    if bytes_eq (text ++ codes "\n") (text_of_row row) then with_rows r section rows else at r (AtFault (FalseRows section.name))

unfoldable pub after_line_at : Stage → Reading → ℕ → List ℕ → Reading
after_line_at AtVersion r n text = after_version r n (profile_of text)
after_line_at AtBlock r n text = after_head r n text (head_of text)
after_line_at (AtEvents section more told) r n text = after_event r n section more told (event_of_line text)
after_line_at (AtRows section rows) r n text = after_row r n text section rows
after_line_at AtEnd r n text = at r (AtFault (NotALedger n))
after_line_at (AtFault found) r n text = r

-- the reading after the text line of number n
unfoldable pub after_line : Reading → ℕ → List ℕ → Reading
after_line r n text = after_line_at r.stage r n text

-- the reading after these text lines, the first having number n
unfoldable pub after_lines : Reading → ℕ → List (List ℕ) → Reading
after_lines r n [] = r
after_lines r n (text ∷ texts) = after_lines (after_line r n text) (suc n) texts

-- whether the byte ends a text line
abbrev pub is_line_end : ℕ → Bool
is_line_end c = c == 10

-- the text lines, and behind the last line end what is not ended, which is mostly nothing
unfoldable pub parts_of : List ℕ → List (List ℕ)
parts_of text = slice_split is_line_end text

-- the text lines that are ended
abbrev pub lines_of : List ℕ → List (List ℕ)
lines_of text = take (length (parts_of text) - 1) (parts_of text)

-- what stands behind the last line end
abbrev pub left_of : List ℕ → List ℕ
left_of text = slice_index_or (parts_of text) (length (parts_of text) - 1) []

-- the reading of a text of any length, but for what is not ended
abbrev pub reading_through : List ℕ → Reading
reading_through text = after_lines unread 1 (lines_of text)

-- that of a text that is loaded whole, which is not too long
unfoldable pub reading_of : List ℕ → Reading
reading_of text = if nat_lt LEDGER_LIMIT (length text) then at unread (AtFault (NotALedger 0)) else reading_through text

-- what is wrong at the end of the text: a text line is missing, or is not ended, or follows the last
abbrev pub fault_at_end : Stage → ℕ → ℕ → Option LedgerFault
fault_at_end AtEnd n left = if left == 0 then None else Some (NotALedger n)
fault_at_end (AtFault found) n left = Some found
fault_at_end _ n left = Some (NotALedger n)

-- the first fault of the text, but for blocks of one name with different events
unfoldable pub fault_of : List ℕ → Option LedgerFault
fault_of text = fault_at_end (reading_of text).stage (length (parts_of text)) (length (left_of text))

-- that of a text of any length
unfoldable pub fault_through : List ℕ → Option LedgerFault
fault_through text = fault_at_end (reading_through text).stage (length (parts_of text)) (length (left_of text))

-- a block's section has the name of one before it, and other events
abbrev pub IsOther : List Trace → Trace → Type 0
IsOther before s = (t : Trace) × Contains before t × (t.name ≡ s.name) × (t ≢ s)

-- it is the first that has, and this is its name
pub record IsFirstOther (blocks : List Trace) (name : Name) : Type 0 where
  pub before : List Trace
  pub section : Trace
  pub rest : List Trace
  pub whole : blocks ≡ before ++ section ∷ rest
  pub agrees : Agrees before
  pub other : IsOther before section
  pub named : section.name ≡ name

-- the fault is one of a text: neither the loader's want of memory nor that of an event
abbrev pub IsOfText : LedgerFault → Type 0
IsOfText OutOfMemory = ⊥
IsOfText (Log fault) = fault ≢ out_of_memory
IsOfText _ = ⊤

-- the fault is want of memory, the loader's own or that of an event
abbrev pub IsWantOfMemory : LedgerFault → Type 0
IsWantOfMemory OutOfMemory = ⊤
IsWantOfMemory (Log fault) = fault ≡ out_of_memory
IsWantOfMemory _ = ⊥

-- at this stage the text line takes memory: it is the head of a block, an event that its section has room for, or compared with a row
abbrev pub LineTakesMemory : Stage → List ℕ → Type 0
LineTakesMemory AtBlock text = head_of text ≢ None
LineTakesMemory (AtEvents section more told) text = IsOk (event_of_line text) × (length section.events ≢ EVENT_LIMIT)
LineTakesMemory (AtRows section rows) text = ⊤
LineTakesMemory _ text = ⊥

-- memory may be wanted: the text is not too long, and some text line takes memory, up to which the reading has no fault and its
-- blocks agree
pub record MayWantMemory (text : List ℕ) : Type 0 where
  pub fits : length text ≤ LEDGER_LIMIT
  pub before : List (List ℕ)
  pub line : List ℕ
  pub rest : List (List ℕ)
  pub whole : lines_of text ≡ before ++ line ∷ rest
  pub agrees : Agrees (after_lines unread 1 before).blocks
  pub takes : LineTakesMemory (after_lines unread 1 before).stage line

-- the text loads as this ledger: it has no fault, and this is the ledger of its sections
pub record LoadsAs (text : List ℕ) (ledger : LedgerValue) : Type 0 where
  pub faultless : fault_of text ≡ None
  pub gathered : IsLedgerOf (reading_of text).profile (reading_of text).blocks ledger

-- the text is refused with this fault, memory aside: blocks that differ come before what is wrong behind them
abbrev pub IsRefusedWith : List ℕ → LedgerFault → Type 0
IsRefusedWith text (Conflict name) = IsFirstOther (reading_of text).blocks name
IsRefusedWith text found = Agrees (reading_of text).blocks × (fault_of text ≡ Some found)
