-- How the stores of a section are made durable, and what is done for it in vain. Defined here.
use Rattle.std.specs.Prelude.{◌≡◌, ℕ, ◌-◌, ◌≤◌, Bool, true, false, not, ◌&&◌, nat_lt, List, length, Option, Some, is_some, if◌then◌else◌}
use Rattle.pmf_event.specs.{declared.event.Event.{Event}, declared.event.Event.TheVariants.{Store, Flush}, Places.{count}, Ranges.{first_byte}, Store.{at, event_at, is_fence, last}, Persist.{is_exposed}}
use Rattle.pmf_shadow.specs.Shadow.{StandsFor}
use Rattle.pmf_lint.specs.{declared.upkeep.{Upkeep.{Upkeep}, Walk.{Walk}}, Leaving.{leaves_unfenced, leaves_unwritten}, Misread.{is_unmet}}

-- whether the event is a write-back
unfoldable pub is_flush : Event → Bool
is_flush (Flush s) = true
is_flush _ = false

-- whether a write-back stands behind the last fence up to place p
unfoldable pub is_flushed : List Event → ℕ → Bool
is_flushed es p = nat_lt (last is_fence es p) (last is_flush es p)

-- whether a write-back stands behind the last fence once the event has happened, from whether one did before
abbrev pub flushed_after : Bool → Event → Bool
flushed_after flushed e = if is_fence e then false else if is_flush e then true else flushed

-- whether place k is a fence with nothing to settle: no write-back stands between the fence before, or the begin, and it
unfoldable pub is_idle : List Event → ℕ → Bool
is_idle es k = at is_fence es k && not (is_flushed es (k - 1))

-- whether the event is a store over a byte that is checked and not durable at p: PMT.PERSIST of its bytes would fail there
abbrev pub overwrites : List Event → ℕ → Option Event → Bool
overwrites es p (Some (Store s)) = is_some (first_byte (is_exposed es p) s)
overwrites es p _ = false

-- whether place k is such a store, by what stands before it
unfoldable pub is_overwriting : List Event → ℕ → Bool
is_overwriting es k = overwrites es (k - 1) (event_at es k)

-- how the stores of a section are made durable, in numbers: stores that are left, and how; those over others that were not durable;
-- fences, and those of them with nothing to settle
unfoldable pub upkeep_of : List Event → Upkeep
upkeep_of es = record {
  unwritten = count (leaves_unwritten es) (length es);
  unfenced = count (leaves_unfenced es) (length es);
  overwriting = count (is_overwriting es) (length es);
  fences = count (at is_fence es) (length es);
  idle = count (is_idle es) (length es);
}

-- none of the numbers is above this one
pub record IsUpkeepWithin (most : ℕ) (u : Upkeep) : Type 0 where
  pub unwritten_within : u.unwritten ≤ most
  pub unfenced_within : u.unfenced ≤ most
  pub overwriting_within : u.overwriting ≤ most
  pub fences_within : u.fences ≤ most
  pub idle_within : u.idle ≤ most

-- what a walk has counted of the first p events, and what it keeps of them
pub record HasWalkedOver (walk : Walk) (es : List Event) (p : ℕ) : Type 0 where
  pub shadow : StandsFor walk.shadow (λ k. k) es p
  pub flushed : walk.flushed ≡ is_flushed es p
  pub fences : walk.fences ≡ count (at is_fence es) p
  pub idle : walk.idle ≡ count (is_idle es) p
  pub overwriting : walk.overwriting ≡ count (is_overwriting es) p
  pub empty : walk.empty ≡ count (is_unmet es) p
