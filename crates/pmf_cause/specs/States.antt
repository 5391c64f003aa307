-- What the walks of this crate keep of a byte or of a line. No public clause cites this.
use Rattle.std.specs.Prelude.{ℕ, Bool, not, ◌&&◌, ◌||◌, ◌==◌, nat_le, nat_lt, if◌then◌else◌}
use Rattle.pmf_cause.specs.declared.stored.{Behind.{Behind}, Stored.{Stored}}

-- whether no write-back follows
abbrev pub lacks_write_back : Stored → Bool
lacks_write_back state = state.written_back == 0

-- whether there is a store that none follows
abbrev pub stored_lacks : Stored → Bool
stored_lacks state = nat_lt 0 state.last && lacks_write_back state

-- whether a summary covers the state
abbrev pub may_be : Behind → Stored → Bool
may_be summary state = (summary.lacks || not (lacks_write_back state)) && ((summary.stored_lacks || not (stored_lacks state)) && nat_le state.written_back summary.latest)

-- whether there is a store that is not durable, where the last fence is this one
abbrev pub is_open : ℕ → Stored → Bool
is_open fence state = nat_lt 0 state.last && (lacks_write_back state || nat_lt fence state.written_back)

-- whether the two differ
abbrev pub is_other : Stored → Stored → Bool
is_other one other = not (other.last == one.last) || not (other.written_back == one.written_back)

-- stored to at the place
abbrev pub stored_at : ℕ → Stored
stored_at place = record { last = place; written_back = 0 }

-- written back at the place, if it was not
abbrev pub written_back_at : ℕ → Stored → Stored
written_back_at place state = if lacks_write_back state then record { last = state.last; written_back = place } else state
