-- Why a row is no PASS: what a byte lacks that had to be durable, or which event is missing or too many. Defined here.
use Rattle.std.specs.Prelude.{ℕ, suc, ◌-◌, Bool, not, ◌&&◌, ◌==◌, nat_lt, List, length, Option, None, Some, if◌then◌else◌}
use Rattle.pmf_event.specs.{declared.event.Event.{Event}, declared.row.Row.{Row}, declared.finding.Finding.{Finding}, Line.{line_of_byte}, Places.{greatest, least}, Store.{at, flushes, is_fence, last, last_store}, Interval.{writes_back}, Transactions.{adds, in_scope, in_transaction, is_outside, scope_at}}
use Rattle.pmf_event.specs.declared.finding.Finding.TheVariants as finding
use Rattle.pmf_cause.specs.declared.{lack.Lack.{Lack}, need.Need.{Need}, cause.Cause.{Cause}}
use Rattle.pmf_cause.specs.declared.lack.Lack.TheVariants as lack
use Rattle.pmf_cause.specs.declared.cause.Cause.TheVariants as cause

-- ---- what a byte lacks

-- the first write-back of the line after place k, up to the section's end, or 0
unfoldable pub write_back_after : List Event → ℕ → ℕ → ℕ
write_back_after es line k = least (writes_back es line k) (length es)

-- whether place f is a fence after place k
unfoldable pub fences_after : List Event → ℕ → ℕ → Bool
fences_after es k f = nat_lt k f && at is_fence es f

-- the first fence after place k, up to the section's end, or 0
unfoldable pub fence_after : List Event → ℕ → ℕ
fence_after es k = least (fences_after es k) (length es)

-- what is lacking, where the last store is that at l, the first write-back behind it that at w, the first fence behind that at f, and
-- the byte had to be durable by place d; None where nothing is
abbrev pub lack_by : ℕ → ℕ → ℕ → ℕ → Option Lack
lack_by l d w f =
    if nat_lt d l then Some lack.StoredBehind
    else if l == d then Some lack.OneStore
    else if w == 0 then Some lack.NotWrittenBack
    else if nat_lt d w then Some (lack.WrittenBackLate w)
    else if f == 0 then Some (lack.NotFenced w)
    else if nat_lt d f then Some (lack.FencedLate w f)
    else None

-- what the need's byte lacks
unfoldable pub lack_of : List Event → Need → Option Lack
lack_of es n =
    let w = write_back_after es (line_of_byte n.byte) n.last in
    lack_by n.last n.due w (fence_after es w)

-- what is asked for where this is found of the event behind place p: a byte, the last store of it, and the place by which it had to
-- be durable: that of the event, or the last store of the byte that had to come after
unfoldable pub need_at : List Event → ℕ → Finding → Option Need
need_at es p (finding.PersistFail byte) = Some (record { byte = byte; last = last_store es p byte; due = suc p })
need_at es p (finding.CheckFail byte) = Some (record { byte = byte; last = last_store es p byte; due = suc p })
need_at es p (finding.OrderedFail byte after crash) = Some (record { byte = byte; last = last_store es p byte; due = last_store es p after })
need_at es p (finding.OrderedSameLine byte after) = Some (record { byte = byte; last = last_store es p byte; due = last_store es p after })
need_at es p _ = None

-- ---- which event is missing, or too many

-- where the outermost transaction that runs at p began: behind the last place, up to p, at which none ran
unfoldable pub begun_at : List Event → ℕ → ℕ
begun_at es p = suc (greatest (is_outside es) p)

-- whether the transactions that ran up to place k ended there, and the last of them with it: one ran before it, and none runs behind it
unfoldable pub ends_last : List Event → ℕ → Bool
ends_last es k = in_transaction es (k - 1) && is_outside es k

-- whether the scope that was open up to place k was closed there
unfoldable pub closes_last : List Event → ℕ → Bool
closes_last es k = in_scope es (k - 1) && not (in_scope es k)

-- the last place, up to p, at which that is so, or 0
abbrev pub last_end : List Event → ℕ → ℕ
last_end es p = greatest (ends_last es) p

abbrev pub last_close : List Event → ℕ → ℕ
last_close es p = greatest (closes_last es) p

-- the last write-back of the line, up to p, or 0; the last TXADD of the byte
abbrev pub last_flush : List Event → ℕ → ℕ → ℕ
last_flush es p line = last (flushes line) es p

abbrev pub last_add : List Event → ℕ → ℕ → ℕ
last_add es p byte = last (adds byte) es p

-- ---- the cause of a row

-- a need that lacks something
abbrev pub not_durable : Need → Option Lack → Option Cause
not_durable need None = None
not_durable need (Some lacking) = Some (cause.NotDurable need lacking)

abbrev pub of_need : List Event → Option Need → Option Cause
of_need es None = None
of_need es (Some need) = not_durable need (lack_of es need)

-- the cause of what is found of the event behind place p, or at the section's end; none of a PASS or EMPTY
unfoldable pub cause_at : List Event → ℕ → Finding → Option Cause
cause_at es p (finding.FlushDoubled line lines) = Some (cause.WrittenBackBefore (last_flush es p line))
cause_at es p (finding.FlushNeedless line lines) = Some (cause.WrittenBackBefore (last_flush es p line))
cause_at es p (finding.DupLog byte) = Some (cause.BackedUpBefore (last_add es p byte))
cause_at es p (finding.NoBackup byte) = Some (cause.NotBackedUp (begun_at es p))
cause_at es p (finding.TxStillOpen depth) = Some (cause.TransactionRuns (begun_at es p))
cause_at es p finding.Unmatched = Some (cause.NoTransaction (last_end es p))
cause_at es p finding.Outside = Some (cause.NoTransaction (last_end es p))
cause_at es p finding.Nested = Some (cause.ScopeOpen (scope_at es p))
cause_at es p (finding.Unclosed start) = Some (cause.ScopeOpen start)
cause_at es p finding.Unopened = Some (cause.NoScope (last_close es p))
cause_at es p found = of_need es (need_at es p found)

-- the cause of a row
abbrev pub cause_of : List Event → Row → Option Cause
cause_of es row = cause_at es (row.place - 1) row.finding
