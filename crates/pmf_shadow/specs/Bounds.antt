-- Bounds of the states of some bytes: which states they cover, and what may be among those.
use Rattle.std.specs.Prelude.{ℕ, Bool, true, false, not, ◌&&◌, ◌||◌, nat_lt, nat_le, min, max, Option, None, Some, if◌then◌else◌}
use Rattle.pmf_shadow.specs.{declared.byte.ByteState.{ByteState}, declared.byte.Stored.{Stored}, declared.byte.bounds.Bounds.{Bounds}, States.{checked_store, stored_of}}

-- ---- what bounds cover

-- whether they cover bytes that are excluded, or such that are not
abbrev pub covers_mark : Bounds → Bool → Bool
covers_mark b out = if out then b.excluded else b.included

-- whether they cover the epoch of a first write-back, or that there is none
abbrev pub covers_write_back : Bounds → Option ℕ → Bool
covers_write_back b None = b.unsettled
covers_write_back b (Some w) = nat_le w b.latest

-- whether they cover a last store, or that there is none
abbrev pub covers_store : Bounds → Option Stored → Bool
covers_store b None = true
covers_store b (Some k) =
    b.stored && (nat_le b.least_opening k.opens && (nat_le b.least_last k.last && (nat_le k.last b.greatest_last && covers_write_back b k.written_back)))

-- whether they cover the epoch of a first write-back of a byte in the checks, or that there is none
abbrev pub covers_checked_write_back : Bounds → Option ℕ → Bool
covers_checked_write_back b None = b.checked_unsettled
covers_checked_write_back b (Some w) = nat_le w b.checked_latest

-- whether they cover the write-back of a last store in the checks, or that there is none
abbrev pub covers_checked : Bounds → Option Stored → Bool
covers_checked b None = true
covers_checked b (Some k) = covers_checked_write_back b k.written_back

-- whether they cover a state
abbrev pub covers : Bounds → ByteState → Bool
covers b s = covers_mark b s.excluded && (covers_store b (stored_of s) && covers_checked b (checked_store s))

-- ---- bounds made of others

-- what either of two covers
abbrev pub joined : Bounds → Bounds → Bounds
joined a b = record {
  excluded = a.excluded || b.excluded;
  included = a.included || b.included;
  stored = a.stored || b.stored;
  unsettled = a.unsettled || b.unsettled;
  least_opening = min a.least_opening b.least_opening;
  least_last = min a.least_last b.least_last;
  greatest_last = max a.greatest_last b.greatest_last;
  latest = max a.latest b.latest;
  checked_unsettled = a.checked_unsettled || b.checked_unsettled;
  checked_latest = max a.checked_latest b.checked_latest;
}

-- with a store at this place, in this epoch
abbrev pub with_store : ℕ → ℕ → Bounds → Bounds
with_store place epoch b = record b {
  stored = true;
  unsettled = true;
  least_opening = min b.least_opening epoch;
  least_last = min b.least_last place;
  greatest_last = max b.greatest_last place;
  checked_unsettled = b.checked_unsettled || b.included;
}

-- with a first write-back in this epoch
abbrev pub with_write_back : ℕ → Bounds → Bounds
with_write_back epoch b = record b {
  latest = max b.latest epoch;
  checked_latest = if b.checked_unsettled then max b.checked_latest epoch else b.checked_latest;
}

-- of the same bytes once all are excluded, or once none is
abbrev pub all_marked : Bool → Bounds → Bounds
all_marked out b = record b {
  excluded = out;
  included = not out;
  checked_unsettled = not out && b.unsettled;
  checked_latest = if out then 0 else b.latest;
}

-- without what is unsettled
abbrev pub without_unsettled : Bounds → Bounds
without_unsettled b = record b { unsettled = false; checked_unsettled = false }

-- ---- what may be among the covered states

-- a byte that is checked, and so something that may be said of such bytes
abbrev pub may_be_checked : Bounds → Bool → Bool
may_be_checked b may = b.stored && (b.included && may)

-- a store that was written back in no epoch before this one
abbrev pub may_be_late : ℕ → Bounds → Bool
may_be_late epoch b = b.unsettled || nat_le epoch b.latest

-- a store of a byte in the checks that was written back in no epoch before this one
abbrev pub may_be_checked_late : ℕ → Bounds → Bool
may_be_checked_late epoch b = b.checked_unsettled || nat_le epoch b.checked_latest

-- the same, of an epoch that may be missing: then it was in time
abbrev pub may_be_late_for_any : Option ℕ → Bounds → Bool
may_be_late_for_any None b = false
may_be_late_for_any (Some epoch) b = may_be_checked_late epoch b

-- whether a number may lie below the least so far, of which this is a bound
abbrev pub may_be_less : ℕ → Option ℕ → Bool
may_be_less bound None = true
may_be_less bound (Some least) = nat_lt bound least
