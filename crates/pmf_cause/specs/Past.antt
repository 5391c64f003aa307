-- What the walk from a section's first event to its last keeps. No public clause cites this.
use Rattle.std.specs.Prelude.{◌≡◌, ℕ, Bool, true, List}
use Rattle.pmf_event.specs.{declared.event.Event.{Event}, Line.{line_of_byte}, Places.{greatest}, Store.{last_store, stores}, Interval.{first_write_back}, Transactions.{depth_at, is_outside, scope_at}}
use Rattle.pmf_runs.specs.{declared.members.Members.{Members}, declared.runs.RunMap.{RunMap}, contracts.members.BoolState.TheImpl.{ghosts}, Runs.{state_at}}
use Rattle.pmf_places.specs.declared.places.Place.{Place}
use Rattle.pmf_cause.specs.{declared.marks.Marks.{Marks}, declared.past.Past.{Past}, declared.stored.{Behind.{Behind}, Stored.{Stored}}, Cause.{last_add, last_close, last_end, last_flush}, Watching.{has_line}}
use Rattle.pmf_cause.specs.contracts.stored.StoredState.TheImpl as stores_kept
use Rattle.pmf_places.specs.contracts.places.PlaceState.TheImpl as places

-- the last store at p of each byte of these lines, and the first write-back of its line behind it
pub record AreStores (lines : RunMap Bool Members ghosts) (runs : RunMap Stored Behind stores_kept.ghosts) (es : List Event) (p : ℕ) : Type 0 where
  pub last : (b : ℕ) → has_line lines b ≡ true → (state_at runs b).last ≡ last_store es p b
  pub written_back : (b : ℕ) → has_line lines b ≡ true → (state_at runs b).written_back ≡ first_write_back (stores b) (line_of_byte b) es p

-- the last write-back at p of each of these lines
abbrev pub AreFlushed : RunMap Bool Members ghosts → RunMap Place (Unit {0}) places.ghosts → List Event → ℕ → Type 0
AreFlushed lines runs es p = (b : ℕ) → has_line lines b ≡ true → (state_at runs b).of ≡ last_flush es p (line_of_byte b)

-- the last TXADD at p of each byte of these lines
abbrev pub AreAdded : RunMap Bool Members ghosts → RunMap Place (Unit {0}) places.ghosts → List Event → ℕ → Type 0
AreAdded lines runs es p = (b : ℕ) → has_line lines b ≡ true → (state_at runs b).of ≡ last_add es p b

-- where transactions and scopes began and ended, at p
pub record AreMarks (marks : Marks) (es : List Event) (p : ℕ) : Type 0 where
  pub depth : marks.depth ≡ depth_at es p
  pub outside : marks.outside ≡ greatest (is_outside es) p
  pub ended : marks.ended ≡ last_end es p
  pub scope : marks.scope ≡ scope_at es p
  pub closed : marks.closed ≡ last_close es p

-- all that is kept of the first events of a list, for the lines that are watched
pub record IsPast (past : Past) (es : List Event) : Type 0 where
  pub stored : AreStores past.watch.stored past.stored es past.place
  pub flushed : AreFlushed past.watch.flushed past.flushed es past.place
  pub added : AreAdded past.watch.added past.added es past.place
  pub marks : AreMarks past.marks es past.place
