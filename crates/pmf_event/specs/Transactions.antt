-- Transactions, and the scope in which they are checked (PMTest, ASPLOS 2019: the checker for undo-log
-- transactions, TX_CHECKER_START to TX_CHECKER_END). Nesting, the order of the findings and misplaced
-- markers are defined here. "At p" means after the first p events; what is found of an event is said of
-- the place p before it.
-- (E and T of the examples: docs/DEFINITIONS.md)
use Rattle.std.specs.Prelude.{ℕ, suc, ◌-◌, Bool, false, true, not, ◌&&◌, nat_lt, List, Option, None, Some, if◌then◌else◌}
use Rattle.pmf_event.specs.{declared.event.Event.{Event}, declared.event.Event.TheVariants.{TxBegin, TxAdd, TxEnd, CheckStart, CheckEnd}, declared.finding.Finding.{Finding}, declared.finding.Finding.TheVariants.{NoBackup, DupLog, CheckPass, CheckFail, TxStillOpen, Unmatched, Outside, Nested, Unopened, Unclosed}, declared.span.TheConstants.{ADDRESS_LIMIT}, Span.{Extent, covers_byte}, Places.{greatest, least, count, highest}, Ranges.{first_from, first_byte}, Store.{at, stores, last}, Interval.{interval_at, is_open}, Exclusion.{is_included}}

-- ---- depth

-- whether the event begins a transaction
-- on T: event 2 does
unfoldable pub begins : Event → Bool
begins TxBegin = true
begins _ = false

-- whether the event ends a transaction
-- on T: event 5 does
unfoldable pub ends : Event → Bool
ends TxEnd = true
ends _ = false

-- by how many the begins exceed the ends after place q, up to p; 0 where they don't
-- on T: from 1 to 4 it is 1, from 4 to 5 it is 0
unfoldable pub rise : List Event → ℕ → ℕ → ℕ
rise es p q = (count (at begins es) p - count (at begins es) q) - (count (at ends es) p - count (at ends es) q)

-- the depth at p, how many transactions run: the highest rise from any place up to p
-- on T: at 1 it is 0, from 2 to 4 it is 1, at 5 it is 0
unfoldable pub depth_at : List Event → ℕ → ℕ
depth_at es p = highest (rise es p) p

-- whether a transaction runs at p
-- on T: from 2 to 4
unfoldable pub in_transaction : List Event → ℕ → Bool
in_transaction es p = nat_lt 0 (depth_at es p)

-- ---- backup

-- whether no transaction runs at the place
unfoldable pub is_outside : List Event → ℕ → Bool
is_outside es q = not (in_transaction es q)

-- whether the event backs the byte up
unfoldable pub adds : ℕ → Event → Bool
adds b (TxAdd s) = covers_byte s b
adds b _ = false

-- whether byte b is backed up at p: a TXADD covers it, and from the place before the last such TXADD on,
-- up to p, a transaction has run at every place
unfoldable pub is_backed : List Event → ℕ → ℕ → Bool
is_backed es p b = nat_lt (greatest (is_outside es) p) (last (adds b) es p - 1)

-- ---- the scope

-- whether the event is a CHECKSTART
-- on T: event 1 is
unfoldable pub opens_scope : Event → Bool
opens_scope CheckStart = true
opens_scope _ = false

-- whether the event is a CHECKEND
-- on T: event 6 is
unfoldable pub closes_scope : Event → Bool
closes_scope CheckEnd = true
closes_scope _ = false

-- whether place j is a CHECKSTART, after place k
-- on T: place 1 is, after place 0
unfoldable pub opens_after : List Event → ℕ → ℕ → Bool
opens_after es k j = nat_lt k j && at opens_scope es j

-- the place that opened the scope at p, the first CHECKSTART after the last CHECKEND, or 0 without a
-- scope
-- on T: from 1 to 5 it is 1, at 6 it is 0
unfoldable pub scope_at : List Event → ℕ → ℕ
scope_at es p = least (opens_after es (last closes_scope es p)) p

-- whether there is a scope at p
-- on T: from 1 to 5
unfoldable pub in_scope : List Event → ℕ → Bool
in_scope es p = nat_lt 0 (scope_at es p)

-- whether place j is a store of byte b, in a transaction
-- on T: place 4 is, of 0x1000 to 0x100f
unfoldable pub stores_inside : List Event → ℕ → ℕ → Bool
stores_inside es b j = at (stores b) es j && in_transaction es j

-- whether byte b is one of the scope's at p: such a store of it follows the place that opened the scope
-- on T: 0x1000 to 0x100f are at 4 and 5
unfoldable pub is_scoped : List Event → ℕ → ℕ → Bool
is_scoped es p b = in_scope es p && nat_lt (scope_at es p) (greatest (stores_inside es b) p)

-- ---- findings

-- what is found of a TXEND that follows place p: UNMATCHED where there is nothing to end
unfoldable pub end_finding : List Event → ℕ → Option Finding
end_finding es p = if in_transaction es p then None else Some Unmatched

-- DUPLOG with this byte
abbrev pub duplog_with : Option ℕ → Option Finding
duplog_with None = None
duplog_with (Some b) = Some (DupLog b)

-- what is found of a TXADD over the span that follows place p: OUTSIDE where no transaction runs; in a
-- scope DUPLOG with the least byte that is backed up already
unfoldable pub add_finding : List Event → ℕ → Extent → Option Finding
add_finding es p s =
    if is_outside es p then Some Outside
    else if in_scope es p then duplog_with (first_byte (is_backed es p) s)
    else None

-- whether byte b, stored to after place p, is included and not backed up
unfoldable pub lacks_backup : List Event → ℕ → ℕ → Bool
lacks_backup es p b = is_included es (suc p) b && not (is_backed es p b)

-- NOBACKUP with this byte
abbrev pub nobackup_with : Option ℕ → Option Finding
nobackup_with None = None
nobackup_with (Some b) = Some (NoBackup b)

-- what is found of a store over the span that follows place p: in a transaction and a scope, NOBACKUP
-- with the least included byte that is not backed up
unfoldable pub store_finding : List Event → ℕ → Extent → Option Finding
store_finding es p s = if in_transaction es p && in_scope es p then nobackup_with (first_byte (lacks_backup es p) s) else None

-- what is found of a CHECKSTART that follows place p: NESTED in a scope
unfoldable pub start_finding : List Event → ℕ → Option Finding
start_finding es p = if in_scope es p then Some Nested else None

-- whether byte b of the scope at p is left open by the event after p: it is included, and its persist
-- interval is open
unfoldable pub is_left_open : List Event → ℕ → ℕ → Bool
is_left_open es p b = is_scoped es p b && is_included es (suc p) b && is_open (interval_at es (suc p) b)

-- pass, or fail with this byte
abbrev pub scope_passes_unless : Option ℕ → Finding
scope_passes_unless None = CheckPass
scope_passes_unless (Some b) = CheckFail b

-- what is found of a CHECKEND that follows place p: UNOPENED without a scope; TXOPEN with the depth where
-- a transaction runs; else FAIL with the least byte that the scope leaves open, or PASS
unfoldable pub check_finding : List Event → ℕ → Finding
check_finding es p =
    if not (in_scope es p) then Unopened
    else if in_transaction es p then TxStillOpen (depth_at es p)
    else scope_passes_unless (first_from (is_left_open es p) 0 ADDRESS_LIMIT)

-- what is found where a section ends at p: UNCLOSED in a scope, with the place that opened it
unfoldable pub close_finding : List Event → ℕ → Option Finding
close_finding es p = if in_scope es p then Some (Unclosed (scope_at es p)) else None
