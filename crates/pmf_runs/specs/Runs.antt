-- The states of the numbers in a map of runs.
use Rattle.std.specs.Prelude.{◌≡◌, ℕ, Bool, ◌&&◌, nat_le, nat_lt, Option, None, Some, if◌then◌else◌}
use Rattle.pmf_runs.specs.{declared.flagged.Flagged.{Flagged}, declared.group.Group.{Group}, declared.level.Level.{Level}, declared.runs.RunMap.{RunMap}, declared.state.State.{Ghosts}, Joined.{Joined, AllJoined, PartsJoined}, Levels.{level_state}, Flags.{flagged_state, FlaggedJoined}, Pages.{pages_state, pages_joined}}

-- whether the number lies from first up to the end
unfoldable pub is_between : ℕ → ℕ → ℕ → Bool
is_between first end b = nat_le first b && nat_lt b end

module _ {S M : Type 0} {laws : Ghosts S M} where
  -- the state that the root gives a number: that in the level of the group that it is handed to
  abbrev pub root_state : Level (Flagged (Group S M laws)) → S → ℕ → S
  root_state = level_state (flagged_state laws.flagged (λ group. pages_state group.level))

  -- the state that the root gives a number, or the gap's where there is none
  abbrev pub state_within : Option (Level (Flagged (Group S M laws))) → S → ℕ → S
  state_within None gap b = gap
  state_within (Some root) gap b = root_state root gap b

  -- the state of a number in a map of runs
  unfoldable pub state_at : RunMap S M laws → ℕ → S
  state_at runs b = state_within runs.root runs.gap b

  -- each number has the state that it had
  pub record KeepsStates (old new : RunMap S M laws) : Type 0 where
    pub states : (b : ℕ) → state_at new b ≡ state_at old b

  -- the states of the numbers from first up to the end are changed, and the others are as they were
  pub record ChangesBetween (first end : ℕ) (change : S → S) (old new : RunMap S M laws) : Type 0 where
    pub states : (b : ℕ) → state_at new b ≡ (if is_between first end b then change (state_at old b) else state_at old b)

  -- whether the state of a number passes
  unfoldable pub passing : (S → Bool) → RunMap S M laws → ℕ → Bool
  passing passes runs b = passes (state_at runs b)

  -- the key that the state of a number has, if it has one
  unfoldable pub keyed : (S → Option ℕ) → RunMap S M laws → ℕ → Option ℕ
  keyed key runs b = key (state_at runs b)

  -- the runs of each leaf under a root differ, but where one was cut at the numbers
  abbrev pub root_joined : Level (Flagged (Group S M laws)) → Option ℕ → Option ℕ → Type 0
  root_joined = PartsJoined (FlaggedJoined (λ group. pages_joined group.level))

  -- no two neighbouring states of a leaf are equal, as it keeps them
  pub record IsJoined (runs : RunMap S M laws) : Type 0 where
    pub leaves : (root : Level (Flagged (Group S M laws))) → runs.root ≡ Some root →
        AllJoined (λ group. AllJoined (λ page. Joined page.part.leaf) group.part.level) root
