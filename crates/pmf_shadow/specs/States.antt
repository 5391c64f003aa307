-- What an event does to the state that is kept of a byte, and what the questions ask of it.
use Rattle.std.specs.Prelude.{ℕ, Bool, true, false, not, ◌&&◌, ◌||◌, ◌==◌, nat_lt, nat_le, Option, None, Some, is_none, if◌then◌else◌}
use Rattle.pmf_shadow.specs.declared.byte.{ByteState.{ByteState}, Stored.{Stored}}

-- ---- what is kept

-- the epoch of the first write-back, where there is one
abbrev pub written_back_of : ByteState → Option ℕ
written_back_of s = if s.is_written_back then Some s.written_back else None

-- the last store, where there is one
abbrev pub stored_of : ByteState → Option Stored
stored_of s = if s.is_stored then Some (record { last = s.last; opens = s.opens; written_back = written_back_of s }) else None

-- whether there is a store, and no write-back after it
abbrev pub is_unsettled : ByteState → Bool
is_unsettled s = s.is_stored && not s.is_written_back

-- ---- changes

-- a byte after a store of it at this place, in this epoch
abbrev pub after_store : ℕ → ℕ → ByteState → ByteState
after_store place epoch s = record s { last = place; opens = epoch; written_back = 0; is_stored = true; is_written_back = false }

-- a byte after a write-back of its line in this epoch: the first one after the store counts
abbrev pub after_write_back : ℕ → ByteState → ByteState
after_write_back epoch s = if is_unsettled s then record s { written_back = epoch; is_written_back = true } else s

-- a byte after an exclusion or an inclusion that covers it
abbrev pub after_mark : Bool → ByteState → ByteState
after_mark out s = record s { excluded = out }

-- ---- what is asked of a byte

-- the last store of a byte that is checked
abbrev pub checked_store : ByteState → Option Stored
checked_store s = if s.excluded then None else stored_of s

-- whether there is a store, and it passes
abbrev pub holds_of : (Stored → Bool) → Option Stored → Bool
holds_of test None = false
holds_of test (Some k) = test k

-- whether no write-back lies in an epoch before this one
abbrev pub is_late : ℕ → Option ℕ → Bool
is_late epoch None = true
is_late epoch (Some w) = nat_le epoch w

-- whether the store was written back in no epoch before this one
abbrev pub late_for : ℕ → Stored → Bool
late_for epoch k = is_late epoch k.written_back

-- the same, of an epoch that may be missing: then it was in time
abbrev pub late_for_any : Option ℕ → Stored → Bool
late_for_any None k = false
late_for_any (Some epoch) k = late_for epoch k

-- whether the store lies in this epoch
abbrev pub opens_in : ℕ → Stored → Bool
opens_in epoch k = k.opens == epoch

-- whether place i stands before place j, or at it where ties count
abbrev pub is_before : Bool → ℕ → ℕ → Bool
is_before ties i j = nat_lt i j || (ties && i == j)

-- whether the store comes before this place
abbrev pub stored_by : Bool → ℕ → Stored → Bool
stored_by ties place k = is_before ties k.last place

-- whether the store comes after one that was first written back then
abbrev pub comes_after : Option ℕ → Stored → Bool
comes_after written_back k = is_late k.opens written_back

-- whether the store of a byte has a partner, one on its line of which `first` is the least place, or one
-- elsewhere of which `elsewhere` is the least epoch
abbrev pub has_one_by : Bool → ℕ → Option ℕ → Stored → Bool
has_one_by ties first elsewhere k = is_before ties first k.last || late_for_any elsewhere k

-- whether the write-back lies in this epoch or later
abbrev pub is_from : ℕ → Option ℕ → Bool
is_from epoch None = false
is_from epoch (Some w) = nat_le epoch w

-- whether the store was first written back in this epoch or later
abbrev pub written_back_from : ℕ → Stored → Bool
written_back_from epoch k = is_from epoch k.written_back

-- whether no write-back of the byte's line follows the store
abbrev pub lacks_write_back : Stored → Bool
lacks_write_back k = is_none k.written_back

-- whether the byte is excluded, or its last store was written back in no epoch before this one
abbrev pub is_outstanding : ℕ → ByteState → Bool
is_outstanding epoch s = s.excluded || holds_of (late_for epoch) (stored_of s)

-- whether it is a store
abbrev pub any_store : Stored → Bool
any_store k = true

-- the place of a store, if there is one
abbrev pub place_of : Option Stored → Option ℕ
place_of None = None
place_of (Some k) = Some k.last

-- its epoch
abbrev pub opening_of : Option Stored → Option ℕ
opening_of None = None
opening_of (Some k) = Some k.opens

-- the place of the last store, if the byte is checked
abbrev pub kept_place : ByteState → Option ℕ
kept_place s = place_of (checked_store s)

-- the epoch of the last store, if the byte is checked
abbrev pub kept_opening : ByteState → Option ℕ
kept_opening s = opening_of (checked_store s)
