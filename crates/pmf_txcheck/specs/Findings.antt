-- What is found of a store and of a CHECKEND where a state and a shadow stand for lists of their own: the depth,
-- the backup and the scope are those of the first p events of the one list, and what is included and which
-- intervals are open is that of the first q events of the other.
use Rattle.std.specs.Prelude.{◌≡◌, ℕ, Bool, not, ◌&&◌, List, Option, None, if◌then◌else◌}
use Rattle.pmf_event.specs.{declared.event.Event.{Event}, declared.finding.Finding.{Finding}, declared.finding.Finding.TheVariants.{TxStillOpen, Unopened}, declared.span.TheConstants.{ADDRESS_LIMIT}, Span.{Extent}, Ranges.{first_from, first_byte}, Interval.{interval_at, is_open}, Exclusion.{is_included}, Transactions.{depth_at, in_transaction, is_backed, in_scope, is_scoped, nobackup_with, scope_passes_unless}}
use Rattle.pmf_shadow.specs.{declared.shadow.Shadow.{Shadow}, Shadow.{StandsFor}}
use Rattle.pmf_txcheck.specs.{declared.state.TxState.{TxState}, Tracking.{Tracks}}

-- whether byte b is included by the one list and not backed up by the other
unfoldable pub lacks_backup_by : List Event → ℕ → List Event → ℕ → ℕ → Bool
lacks_backup_by es p fs q b = is_included fs q b && not (is_backed es p b)

-- what is found of a store over the span: in a transaction and a scope, NOBACKUP with the least included byte that
-- is not backed up
unfoldable pub store_finding_by : List Event → ℕ → List Event → ℕ → Extent → Option Finding
store_finding_by es p fs q s = if in_transaction es p && in_scope es p then nobackup_with (first_byte (lacks_backup_by es p fs q) s) else None

-- whether byte b of the scope is left open: it is included, and its persist interval is open
unfoldable pub is_left_open_by : List Event → ℕ → List Event → ℕ → ℕ → Bool
is_left_open_by es p fs q b = is_scoped es p b && is_included fs q b && is_open (interval_at fs q b)

-- what is found of a CHECKEND: UNOPENED without a scope; TXOPEN with the depth where a transaction runs; else FAIL
-- with the least byte that the scope leaves open, or PASS
unfoldable pub check_finding_by : List Event → ℕ → List Event → ℕ → Finding
check_finding_by es p fs q =
    if not (in_scope es p) then Unopened
    else if in_transaction es p then TxStillOpen (depth_at es p)
    else scope_passes_unless (first_from (is_left_open_by es p fs q) 0 ADDRESS_LIMIT)

-- the finding is that of a store over the span, for whatever the state and the shadow stand for
abbrev pub FindsOfStore : TxState → Shadow → Extent → Option Finding → Type 0
FindsOfStore state shadow s finding = (told tells : ℕ → ℕ) (es fs : List Event) (p q : ℕ) →
    Tracks state told es p → StandsFor shadow tells fs q → finding ≡ store_finding_by es p fs q s

-- the finding is that of a CHECKEND, for whatever the state and the shadow stand for
abbrev pub FindsOfCheckEnd : TxState → Shadow → Finding → Type 0
FindsOfCheckEnd state shadow finding = (told tells : ℕ → ℕ) (es fs : List Event) (p q : ℕ) →
    Tracks state told es p → StandsFor shadow tells fs q → finding ≡ check_finding_by es p fs q
