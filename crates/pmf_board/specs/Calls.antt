-- What a call on a board does to what its pass knows. Defined here.
use Rattle.std.specs.Prelude.{◌≡◌, ℕ, ◌+◌, ◌-◌, ◌%◌, ◌<◌, ◌≤◌, ◌↔◌, true, leb, if◌then◌else◌, List, [], ◌∷◌, ◌++◌}
use Rattle.pmf_board.specs.{declared.entry.Entry.{Entry}, declared.task.Task.{Task}, declared.view.View.{View}, Machine.{entry_at}, Rule.{due}, Views.{times, most_seen, HasMarked, HasTaken, HasSeenDone, HasSeenClosed, NeverFalls}}

-- the pass took and marked nothing more, its shares are the same, and what it saw never falls
pub record Stays (old new : View) : Type 0 where
  pub took : new.took ≡ old.took
  pub marked : new.marked ≡ old.marked
  pub shares : new.shares ≡ old.shares
  pub never_falls : NeverFalls old new

-- the section joins what the pass marked, and was seen done; nothing else changes, and what was seen never falls
pub record Marks (old : View) (s : ℕ) (new : View) : Type 0 where
  pub took : new.took ≡ old.took
  pub marked : new.marked ≡ old.marked ++ s ∷ []
  pub shares : new.shares ≡ old.shares
  pub done : HasSeenDone new s
  pub never_falls : NeverFalls old new

-- the task joins what the pass took: its section was found on offer below the limit, its number is above all that the pass had seen, and the pass has seen the section with that number and not done
pub record Takes (limit : ℕ) (old : View) (t : Task) (new : View) : Type 0 where
  pub took : new.took ≡ old.took ++ t ∷ []
  pub marked : new.marked ≡ old.marked
  pub shares : new.shares ≡ old.shares
  pub has : HasTaken new t
  pub number : (0 < t.number) × (t.number ≤ limit)
  pub above : most_seen t.section old < t.number
  pub open_before : (HasSeenDone old t.section → ⊥) × (HasMarked old t.section → ⊥)
  pub seen : (most_seen t.section new ≡ t.number) × (HasSeenDone new t.section → ⊥)
  pub never_falls : NeverFalls old new

-- how far a section lies from the first, going upwards and round
abbrev pub round_from : ℕ → ℕ → ℕ → ℕ
round_from sections first s = if leb first s then s - first else s + sections - first

-- of so many sections, each that comes before this one, from the start on and round, was seen done or with as many hand-outs as the limit
abbrev pub PassesOver : ℕ → ℕ → ℕ → ℕ → View → Type 0
PassesOver limit sections start t v = (s : ℕ) → s < sections → round_from sections (start % sections) s < round_from sections (start % sections) t → HasSeenClosed limit v s

-- of so many sections, each was seen done or with as many hand-outs as the limit
abbrev pub PassesOverAll : ℕ → ℕ → View → Type 0
PassesOverAll limit sections v = (s : ℕ) → s < sections → HasSeenClosed limit v s

-- the tally has each hand-out that the view took, each once and no others, as done just what it marked, and of what is done as many hand-outs as it saw
pub record IsTallied (v : View) (tally : List Entry) : Type 0 where
  pub once : (s k : ℕ) → times s k v ≡ due tally s k
  pub done : (s : ℕ) → ((entry_at tally s).done ≡ true) ↔ HasMarked v s
  pub frozen : (s : ℕ) → (entry_at tally s).done ≡ true → most_seen s v ≡ (entry_at tally s).handouts
